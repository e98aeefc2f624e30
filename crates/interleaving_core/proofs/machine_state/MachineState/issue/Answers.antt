use Rattle.std.proofs.Common.{◌<◌, ap, sym, subst, refl, arith, length, length-set, set}
use Rattle.std.proofs.lemmas.Bool.{lt-ltb}
use Rattle.std.proofs.lemmas.Option.{slice_get_read}
use Rattle.core_pts.specs.CoreTable.{CoreState}
use Rattle.machine_table.specs.Machine.{Machine}
use Rattle.machine_theorem.specs.Kept.{Invariant}
use Rattle.interleaving_core.specs.contracts.machine_state.MachineState.{the_view}
use Rattle.interleaving_core.specs.CoreMasks.{AreMasks}
use Rattle.interleaving_core.proofs.MaskedCores.{read_back}
use Rattle.interleaving_core.proofs.OpenedOps.{issue_done, issue_wanted, read_there, tested_free}
use Rattle.interleaving_core.proofs.OpenCounts.{owed_within}
use Rattle.interleaving_core.proofs.machine_state.MachineState.issue.Goals as goal

pub issue-requires : goal.issue-requires
issue-requires g c =
    let shape = (subst Invariant (sym c.self.view_is) c.requires) in
    omega (arith, shape.lists, shape.core_count, c.if-at-len.false, c.len.ensures)

pub returns-in_err-issue-clause-wanted : goal.returns-in_err-issue-clause-wanted
returns-in_err-issue-clause-wanted g c =
    let m : Machine = the_view g.row.H g.H.History c.self.inside in
    let within : c.args.core < length m.cores = omega (arith, c.if-at-len.false, c.len.ensures) in
    let core = c.index-2.result.now in
    let here = slice_get_read m.cores (length m.cores) c.args.core core refl within c.index-2.ensures in
    let free = tested_free c.index.result.now core (read_there m.cores c.args.core c.index.result.now core within
    c.index.ensures here) _ _ c.open_op.ensures c.is_some.ensures c.if-is_some.false in
    let few = lt-ltb core.issued 4294967295 (omega (arith, c.issued.ensures, c.if-issued-ge4294967295.false)) in
    issue_wanted m _ c.self.view_is c.args.core core here c.args.op free few _

pub invariant_of-self-2 : goal.invariant_of-self-2
invariant_of-self-2 g c =
    let cores = c.self.inside.cores.items in
    let within : c.args.core < length cores = omega (arith, c.if-at-len.false, c.len.ensures) in
    let here = slice_get_read cores (length cores) c.args.core c.index_mut.result.now refl within
    c.index_mut.ensures.value in
    let same = length-set cores c.args.core c.issue-issued.new.self in
    let most = owed_within (set cores c.args.core c.issue-issued.new.self) in
    record {
      cores_are = c.self.invariant.cores_are;
      banks_are = c.self.invariant.banks_are;
      capacity_is = c.self.invariant.capacity_is;
      reserved =
          omega (arith, same, most, c.in_ok-issue.ensures.reserved, ap length c.issue.ensures.records, c.len-2.ensures);
      masked = subst (λ (x : CoreState). AreMasks c.update_core_masks.new.masks (set cores c.args.core x))
          (read_back cores c.args.core c.issue-issued.new.self c.index-3.result.now within c.index-3.ensures)
          (c.update_core_masks.ensures cores c.index_mut.result.now here c.self.invariant.masked);
    }

pub returns-clause-done : goal.returns-clause-done
returns-clause-done g c =
    let m : Machine = the_view g.row.H g.H.History c.self.inside in
    let within : c.args.core < length c.self.inside.cores.items = omega (arith, c.if-at-len.false, c.len.ensures) in
    let here = slice_get_read c.self.inside.cores.items (length c.self.inside.cores.items) c.args.core
    c.index_mut.result.now refl within c.index_mut.ensures.value in
    let cores = c.self.inside.cores.items in
    let core = c.index_mut.result.now in
    let free = tested_free c.index.result.now core (read_there cores c.args.core c.index.result.now core within
    c.index.ensures here) _ _ c.open_op.ensures c.is_some.ensures c.if-is_some.false in
    let number = ap (λ (x : CoreState). x.issued) (read_there cores c.args.core c.index-2.result.now core within
    c.index-2.ensures here) in
    let few = lt-ltb c.index_mut.result.now.issued 4294967295
    (omega (arith, number, c.issued.ensures, c.if-issued-ge4294967295.false)) in
    let shape = (subst Invariant (sym c.self.view_is) c.requires) in
    issue_done m _ c.self.view_is c.args.core core here c.args.op c.issue-issued.new.self _ _ _
    free few c.issue-issued.ensures c.in_ok-issue.ensures.issued c.issue.ensures.records

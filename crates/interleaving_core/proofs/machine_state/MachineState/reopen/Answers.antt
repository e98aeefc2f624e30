use Rattle.std.proofs.Common.{◌≡◌, false, ap, subst, sym, ◌∙◌, arith, length}
use Rattle.machine_table.specs.Machine.{Machine}
use Rattle.machine_table.specs.Opening.{at_start}
use Rattle.interleaving_core.specs.contracts.machine_state.MachineState.{the_view}
use Rattle.interleaving_core.specs.CoreMasks.{AreMasks}
use Rattle.interleaving_core.specs.Reservation.{owed}
use Rattle.network.specs.Flight.{Flight}
use Rattle.interleaving_core.proofs.OpenCounts.{none_at_first}
use Rattle.interleaving_core.proofs.machine_state.MachineState.reopen.Goals as goal

pub invariant_of-result : goal.invariant_of-result
invariant_of-result g c =
    let none =
    ap owed c.in_ok-reopen_parts.ensures.cores ∙ none_at_first c.self.inside.config 0 c.self.inside.config.cores in
    let empty = ap length c.clear-2.ensures.records in
    record {
      cores_are = ap (λ (t : Flight). t.cores) c.clear.ensures ∙ c.self.invariant.cores_are;
      banks_are = ap (λ (t : Flight). t.banks) c.clear.ensures ∙ c.self.invariant.banks_are;
      capacity_is = ap (λ (t : Flight). t.capacity) c.clear.ensures ∙ c.self.invariant.capacity_is;
      reserved = omega (arith, none, empty);
      masked = subst (AreMasks _) (sym c.in_ok-reopen_parts.ensures.cores) (c.idle_core_masks.ensures
          c.self.inside.config);
    }

pub clear-requires-2 : goal.clear-requires-2
clear-requires-2 g c = subst (λ (n : Machine). length n.issued ≡ n.config.cores) (sym c.self.view_is) c.requires.issued

pub returns : goal.returns
returns g c =
    let m : Machine = the_view g.row.H g.H.History c.self.inside in
    let made = c.in_ok-reopen_parts.ensures in
    (λ i. record {
      config = m.config;
      opening = c.args.memory;
      cores = made.cores i;
      banks = made.banks i;
      drams = made.drams i;
      mail = ap (λ (t : Flight). t.mail) c.clear.ensures i;
      issued = c.clear-2.ensures.issued i;
      records = c.clear-2.ensures.records i;
      is_stopped = false;
    })
    ∙ ap (λ (n : Machine). at_start n.config c.args.memory) c.self.view_is

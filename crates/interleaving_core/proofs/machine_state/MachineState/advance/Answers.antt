use Rattle.std.proofs.Common.{None, ap, sym, subst, refl, ◌∙◌, arith, length}
use Rattle.std.proofs.lemmas.Option.{slice_get_read}
use Rattle.network.specs.Mail.{Mail}
use Rattle.core_pts.specs.CoreTable as core_table
use Rattle.core_pts.specs.CoreTable.{CoreState}
use Rattle.machine_table.specs.declared.event.Answer.{Answer}
use Rattle.machine_table.specs.Machine.{Machine, with_core}
use Rattle.machine_table.specs.declared.event.Event.TheVariants.{Advance}
use Rattle.machine_table.specs.Step.{advanced}
use Rattle.machine_table.specs.Transition.{changed, on_event}
use Rattle.machine_table.proofs.Lemmas.{advance_fits, finds}
use Rattle.interleaving_core.specs.contracts.machine_state.MachineState.{the_view}
use Rattle.interleaving_core.specs.PartChanges.{answer_of}
use Rattle.interleaving_core.proofs.ChangedParts.{core_place, made_without}
use Rattle.interleaving_core.proofs.MaskedCores.{still_masked}
use Rattle.interleaving_core.proofs.Only.{SameStatus, advance_only, kept}
use Rattle.interleaving_core.proofs.OpenCounts.{owed_kept}
use Rattle.interleaving_core.proofs.machine_state.MachineState.advance.Goals as goal

pub invariant_of-self : goal.invariant_of-self
invariant_of-self g c =
    let core = c.index_mut.result.now in
    let mail : Mail = c.self.inside.flight.mail in
    let here = slice_get_read c.self.inside.cores.items (length c.self.inside.cores.items) c.args.core
    c.index_mut.result.now refl (omega (arith, c.if-at-len.false, c.len.ensures)) c.index_mut.ensures.value in
    let status = subst (λ (x : Answer × CoreState × Mail). SameStatus core x.1) (sym
    (c.advance_core_time-plain.ensures 0 mail))
    (kept core (SameStatus core) (refl, refl) 0 mail None _ (advance_only core)) in
    let same = owed_kept c.self.inside.cores.items c.args.core core c.advance_core_time-plain.new.core here status.0 in
    record {
      cores_are = c.self.invariant.cores_are;
      banks_are = c.self.invariant.banks_are;
      capacity_is = c.self.invariant.capacity_is;
      reserved = omega (arith, same, c.self.invariant.reserved);
      masked = still_masked c.self.inside.masks c.self.inside.cores.items c.args.core core _ here
          c.self.invariant.masked status.0 status.1;
    }

pub returns : goal.returns
returns g c =
    let m : Machine = the_view g.row.H g.H.History c.self.inside in
    let core = c.index_mut.result.now in
    let here = slice_get_read c.self.inside.cores.items (length c.self.inside.cores.items) c.args.core
    c.index_mut.result.now refl (omega (arith, c.if-at-len.false, c.len.ensures)) c.index_mut.ensures.value in
    made_without (core_place m c.args.core) core here None _ (advance_fits (core_table.advance core))
    (answer_of c.advance_core_time-plain.result) c.advance_core_time-plain.new.core m.mail
    c.stop_after_plain_answer.new.is_stopped
    (c.advance_core_time-plain.ensures m.config.messages m.mail) c.stop_after_plain_answer.ensures
    ∙ sym (finds m (λ x. changed m (with_core m c.args.core) None (advanced (core_table.advance x))) here)
    ∙ ap (λ (n : Machine). on_event n (Advance c.args.core)) c.self.view_is

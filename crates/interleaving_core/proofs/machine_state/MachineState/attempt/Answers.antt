use Rattle.std.proofs.Common.{◌≡◌, ℕ, ◌+◌, List, set, ap, sym, subst, refl, ◌∙◌, arith, length}
use Rattle.std.proofs.lemmas.Option.{slice_get_read}
use Rattle.physiological_order.specs.declared.operation.Op.{Op}
use Rattle.network.specs.Mail.{Mail}
use Rattle.core_pts.specs.CoreTable.{CoreState}
use Rattle.machine_table.specs.declared.event.Answer.{Answer}
use Rattle.machine_table.specs.Machine.{Machine}
use Rattle.machine_table.specs.Step.{attempt_open}
use Rattle.machine_table.specs.declared.event.Event.TheVariants.{Attempt}
use Rattle.machine_table.specs.Transition.{on_event, tried}
use Rattle.machine_table.proofs.Lemmas.{attempt_fits, finds}
use Rattle.machine_theorem.specs.Kept.{Invariant}
use Rattle.interleaving_core.specs.contracts.machine_state.MachineState.{the_view}
use Rattle.interleaving_core.specs.PartChanges.{StandsAfter, answer_in, applied_attempt, with_record}
use Rattle.interleaving_core.specs.Reservation.{owed_for}
use Rattle.interleaving_core.proofs.ChangedParts.{core_place, is_tried, put_so}
use Rattle.interleaving_core.proofs.LastRecord.{told_in}
use Rattle.interleaving_core.proofs.Only.{attempt_only, attempt_stands, balanced}
use Rattle.interleaving_core.proofs.OpenCounts.{owed_set}
use Rattle.interleaving_core.proofs.Endpoints.{still_fitted}
use Rattle.interleaving_core.proofs.Parts.{core_below, core_banks}
use Rattle.interleaving_core.proofs.machine_state.MachineState.attempt.Goals as goal

pub attempt_open_operation-answer-requires-clause-number : goal.attempt_open_operation-answer-requires-clause-number
attempt_open_operation-answer-requires-clause-number g c =
    let m : Machine = the_view g.row.H g.H.History c.self.inside in
    let here = slice_get_read c.self.inside.cores.items (length c.self.inside.cores.items) c.args.core
    c.index_mut.result.now refl (omega (arith, c.if-at-len.false, c.len.ensures)) c.index_mut.ensures.value in
    let below = core_below m (subst Invariant (sym c.self.view_is) c.requires) c.args.core
    c.index_mut.result.now here in
    omega (arith, below, c.self.invariant.cores_are)

pub attempt_open_operation-answer-requires-clause-banks : goal.attempt_open_operation-answer-requires-clause-banks
attempt_open_operation-answer-requires-clause-banks g c =
    let m : Machine = the_view g.row.H g.H.History c.self.inside in
    let here = slice_get_read c.self.inside.cores.items (length c.self.inside.cores.items) c.args.core
    c.index_mut.result.now refl (omega (arith, c.if-at-len.false, c.len.ensures)) c.index_mut.ensures.value in
    core_banks m (subst Invariant (sym c.self.view_is) c.requires) c.args.core c.index_mut.result.now here
    ∙ sym c.self.invariant.banks_are

pub add_completed_record-requires : goal.add_completed_record-requires
add_completed_record-requires g c =
    let here = slice_get_read c.self.inside.cores.items (length c.self.inside.cores.items) c.args.core
    c.index_mut.result.now refl (omega (arith, c.if-at-len.false, c.len.ensures)) c.index_mut.ensures.value in
    let count = subst (λ (x : Answer × CoreState × Mail).
    length (with_record (g.H.History.records c.self.inside.history) x.0) +
    owed_for x.1.open_op ≡ length (g.H.History.records c.self.inside.history) + owed_for c.index_mut.result.now.open_op)
    (sym c.attempt_open_operation-answer.ensures.done)
    (balanced c.index_mut.result.now c.args.core c.count-count.result c.self.inside.flight.capacity
    c.self.inside.flight.mail (g.H.History.records c.self.inside.history) _
    (attempt_fits c.index_mut.result.now c.index_mut.result.now.open_op) (attempt_only c.index_mut.result.now)) in
    let all = owed_set c.self.inside.cores.items c.args.core c.index_mut.result.now
    c.attempt_open_operation-answer.new.core here in
    omega (arith, count, all, c.self.invariant.reserved)

pub invariant_of-self : goal.invariant_of-self
invariant_of-self g c =
    let here = slice_get_read c.self.inside.cores.items (length c.self.inside.cores.items) c.args.core
    c.index_mut.result.now refl (omega (arith, c.if-at-len.false, c.len.ensures)) c.index_mut.ensures.value in
    let count = subst (λ (x : Answer × CoreState × Mail).
    length (with_record (g.H.History.records c.self.inside.history) x.0) +
    owed_for x.1.open_op ≡ length (g.H.History.records c.self.inside.history) + owed_for c.index_mut.result.now.open_op)
    (sym c.attempt_open_operation-answer.ensures.done)
    (balanced c.index_mut.result.now c.args.core c.count-count.result c.self.inside.flight.capacity
    c.self.inside.flight.mail (g.H.History.records c.self.inside.history) _
    (attempt_fits c.index_mut.result.now c.index_mut.result.now.open_op) (attempt_only c.index_mut.result.now)) in
    let all = owed_set c.self.inside.cores.items c.args.core c.index_mut.result.now
    c.attempt_open_operation-answer.new.core here in
    let kept = ap length c.add_completed_record.ensures.records in
    let stands = subst (λ (x : Answer × CoreState × Mail). StandsAfter x.0 c.index_mut.result.now x.1)
    (sym c.attempt_open_operation-answer.ensures.done)
    (attempt_stands c.index_mut.result.now c.args.core c.count-count.result c.self.inside.flight.capacity
    c.self.inside.flight.mail) in
    still_fitted c.self.inside.config c.self.inside.flight c.self.inside.cores.items
    (g.H.History.records c.self.inside.history) _
    c.self.invariant _ _ _ _ _ c.attempt_open_operation-answer.ensures.set_up
    (omega (arith, count, all, kept, c.add_completed_record.ensures.room, c.self.invariant.reserved))
    (c.update_masks_after_attempt.ensures c.self.inside.cores.items c.index_mut.result.now
    c.attempt_open_operation-answer.new.core here stands
    c.self.invariant.masked)

pub returns-clause-tried : goal.returns-clause-tried
returns-clause-tried g c =
    let m : Machine = the_view g.row.H g.H.History c.self.inside in
    let core = c.index_mut.result.now in
    let here = slice_get_read c.self.inside.cores.items (length c.self.inside.cores.items) c.args.core
    c.index_mut.result.now refl (omega (arith, c.if-at-len.false, c.len.ensures)) c.index_mut.ensures.value in
    let counted : c.count-count.result ≡ length (g.H.History.records c.self.inside.history) =
    omega (arith, c.count-count.ensures) in
    let tries = attempt_open core core.open_op in
    let done = c.attempt_open_operation-answer.ensures.done
    ∙ ap (λ (n : ℕ). applied_attempt c.args.core n c.self.inside.flight.capacity m.mail core tries) counted
    ∙ ap (λ (n : ℕ). applied_attempt c.args.core (length m.records) n m.mail core tries)
    c.self.invariant.capacity_is in
    let after : List (List Op) → Machine = λ issued. record m {
      cores = set m.cores c.args.core c.attempt_open_operation-answer.new.core;
      mail = c.attempt_open_operation-answer.new.flight.mail;
      issued = issued;
      records = g.H.History.records c.add_completed_record.new.history;
      is_stopped = c.stop_if_exhausted.new.is_stopped;
    } in
    ap (λ (issued : List (List Op)).
    (answer_in (g.H.History.records c.add_completed_record.new.history) c.plain_of.result, after issued))
    c.add_completed_record.ensures.issued
    ∙ told_in _ m.records c.attempt_open_operation-answer.result c.plain_of.result _ c.plain_of.ensures
    c.add_completed_record.ensures.records
    (put_so (core_place m c.args.core) core here
    (applied_attempt c.args.core (length m.records) m.config.messages m.mail core tries)
    (tried m c.args.core core tries)
    (is_tried m c.args.core core here tries (attempt_fits core core.open_op))
    c.attempt_open_operation-answer.result c.attempt_open_operation-answer.new.core
    c.attempt_open_operation-answer.new.flight.mail
    (g.H.History.records c.add_completed_record.new.history) c.stop_if_exhausted.new.is_stopped
    done c.add_completed_record.ensures.records c.stop_if_exhausted.ensures
    ∙ sym (finds m (λ x. tried m c.args.core x (attempt_open x x.open_op)) here)
    ∙ ap (λ (n : Machine). on_event n (Attempt c.args.core)) c.self.view_is)

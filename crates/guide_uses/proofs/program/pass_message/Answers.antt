-- The machine is one that events lead to from its opening, and the second thread has ended.
use Rattle.std.proofs.Common.{◌≡◌, ◌∙◌, ap, subst, sym, refl, [], ◌∷◌}
use Rattle.std.specs.FinMap.{FinMap, empty}
use Rattle.std.specs.Ordering.{nat_cmp}
use Rattle.std.specs.Prelude.{ℕ, slice_index_or}
use Rattle.physiological_order.specs.Order.{flat, Legal}
use Rattle.machine_table.specs.Machine.{Machine}
use Rattle.machine_table.specs.Opening.{at_start}
use Rattle.machine_table.specs.Runs.{after_all}
use Rattle.machine_theorem.specs.Consistency.{IsConsistent}
use Rattle.machine_theorem.specs.Service.{AreServed}
use Rattle.guide_uses.specs.declared.drive.TheConstants.{TWO_CORES}
use Rattle.guide_uses.specs.declared.program.Thread.TheVariants.{StoreMessage, LoadFlag}
use Rattle.guide_uses.specs.Passing.{passing_acts}
use Rattle.guide_uses.proofs.Passed.{passed}
use Rattle.guide_uses.proofs.program.pass_message.Goals as goal

pub returns-in-Over : goal.returns-in-Over
returns-in-Over c =
    let m : Machine = c.drive_round-driven.new.system in
    let threads = c.drive_round-driven.new.programs in
    let events = c.drive_round-driven.result.events.items in
    let first = c.in_ok-system.ensures.opened ∙ ap (at_start TWO_CORES) c.new.ensures in
    let after : m ≡ after_all (at_start TWO_CORES empty) events =
    c.drive_round-driven.ensures.machine ∙ ap (λ (k : Machine). after_all k events) first in
    let consistent = subst IsConsistent (sym after)
    (c.every_history_is_legal.ensures.consistent TWO_CORES empty events refl) in
    let opened = ap (λ (k : Machine). k.opening) after
    ∙ c.every_history_is_legal.ensures.opening TWO_CORES empty events in
    passed m threads c.in-Over.message _
    (subst (λ (k : Machine). AreServed passing_acts k m (StoreMessage ∷ LoadFlag ∷ []) threads) first
    c.drive_round-driven.ensures.served)
    c.in-Over.is
    (subst (λ (o : FinMap nat_cmp ℕ). Legal (flat o) (λ core. slice_index_or m.issued core []) m.records) opened
    consistent.legal)

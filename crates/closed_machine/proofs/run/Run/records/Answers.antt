use Rattle.std.proofs.Common.{List, sym, subst, ◌∙◌}
use Rattle.physiological_order.specs.declared.operation.Record.{Record}
use Rattle.physiological_order.specs.Order.{of_core}
use Rattle.physiological_order.specs.StaleHits.{RisesByNumber}
use Rattle.protocol.specs.Issued.{IsIssued}
use Rattle.closed_machine.specs.RunParts.{state_of_run}
use Rattle.closed_machine.proofs.RunStates.{rises}
use Rattle.closed_machine.proofs.run.Run.records.Goals as goal

pub returns-clause-rising : goal.returns-clause-rising
returns-clause-rising c =
    λ parts.
    let run = c.args.self.now in
    subst RisesByNumber (sym c.as_slice.ensures.value)
    (rises run.records.items
    (c.records_are_in_order.ensures run.set_up.config run.set_up.memory (state_of_run run parts) parts.whole.reached))

pub returns-clause-issued : goal.returns-clause-issued
returns-clause-issued c =
    λ parts core below.
    let run = c.args.self.now in
    let state = state_of_run run parts in
    subst (λ (rs : List Record). IsIssued (state.issued core) (of_core core rs) (state.cores core).open_op)
    (sym c.as_slice.ensures.value)
    (c.places_count_records.ensures.issued run.set_up.config run.set_up.memory state parts.good parts.whole.reached core
    below)

pub returns-clause-beyond : goal.returns-clause-beyond
returns-clause-beyond c =
    λ parts core past.
    let z = c.args.self.now.set_up in
    let state = state_of_run c.args.self.now parts in
    let law = c.reached_states_have_the_invariant.ensures in
    (law.shows z.config z.memory state parts.good parts.whole.reached).same.issued core
    ∙ (law.invariant z.config z.memory state parts.good parts.whole.reached).kept.shape.lists_beyond core past

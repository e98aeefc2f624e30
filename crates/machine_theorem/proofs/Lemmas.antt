-- What the proofs of this crate give to the crates above: they import this file and no other of this folder.

-- Any event and any list of events keep the invariant.
pub use Rattle.machine_theorem.proofs.Events.{any_event, any_transition}
-- Every message in flight has a case in the table of the part that it goes to.
pub use Rattle.machine_theorem.proofs.FoundCases.{messages_find_cases}
-- A message in flight is always found by its part.
pub use Rattle.machine_theorem.proofs.Found.{delivery_found}
-- A machine with the invariant is consistent.
pub use Rattle.machine_theorem.proofs.Consistency.{consistent}
-- What is found in lists, tables and bags of messages after each change.
pub use Rattle.machine_theorem.proofs.Lookups.{each_at_number, get-set_other, get-set_same}
-- The invariant holds of a machine as it opens.
pub use Rattle.machine_theorem.proofs.Openings.{at_start_invariant, fair}
-- The parts in a machine's lists have their shape.
pub use Rattle.machine_theorem.proofs.Parts.{core_shape, bank_shape}
-- Between which nodes the messages go that parts send.
pub use Rattle.machine_theorem.proofs.Routes.{both, core_and_bank}
-- No event changes how the machine was set up.
pub use Rattle.machine_theorem.proofs.SetUps.{after_all_same, set_up_same, transition_same}
-- The owners of a line among messages, by their weights, and among caches.
pub use Rattle.machine_theorem.proofs.Coherence.{owners_weigh, owns_is}
-- The first of some parts, in a list.
pub use Rattle.machine_theorem.proofs.Lists.{first_at}
-- A round changes a machine that can send one more message, if a core has an operation open.
pub use Rattle.machine_theorem.proofs.MovingOn.{moves_after}
-- What rounds keep of recalls, event by event, and how many messages are in flight in a round that changes nothing.
pub use Rattle.machine_theorem.proofs.FewMessages.{few_after}
pub use Rattle.machine_theorem.proofs.RoundPhases.{Claim, Lasting, InTurn, Pends, Rested, AreOthers, turn_begins}
pub use Rattle.machine_theorem.proofs.RoundPhases.{turn_passes, issue_lasts, advance_lasts, attempt_lasts, copy_lasts}
pub use Rattle.machine_theorem.proofs.RoundPhases.{delivery_lasts, again_lasts, line_lasts, delivery_begins}
pub use Rattle.machine_theorem.proofs.RoundPhases.{delivery_ends, rising_others, opens_rested, rested_owns}

-- What the proofs of this crate give to the crates above: they import this file and no other of this folder.

-- A walk of an outbox that has ended.
pub use Rattle.closed_machine.proofs.Outboxes.{walked_all}
-- What is read at a place of a list.
pub use Rattle.closed_machine.proofs.EmptiedSlots.{sliced}

-- What the proofs of this crate give to the crates above: they import this file and no other of this folder.

-- A point has a list for each thread, and only so many turns lead to it.
pub use Rattle.sequential_machine.proofs.Points.{lists_count}
pub use Rattle.sequential_machine.proofs.TurnsLeft.{turns_few}

-- What the proofs of this crate give to the crates above: they import this file and no other of this folder.

-- An attempt that completes closes the operation, and others leave it open.
pub use Rattle.interleaving_core.proofs.ClosedOps.{Closes, attempt_closes}

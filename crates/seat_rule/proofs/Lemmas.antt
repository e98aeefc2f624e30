-- What the proofs of this crate give to the crates above: they import this file and no other of this folder.

-- What two lists of messages weigh together.
pub use Rattle.seat_rule.proofs.Weights.{weigh-append}

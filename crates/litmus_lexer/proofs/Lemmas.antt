-- What the proofs of this crate give to the crates above: they import this file and no other of this folder.

-- The longest front of one kind of bytes.
pub use Rattle.litmus_lexer.proofs.Fronts.{front-all, front-whole, whole-front}

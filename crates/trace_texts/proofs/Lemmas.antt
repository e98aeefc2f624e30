-- What the proofs of this crate give to the crates above: they import this file and no other of this folder.

-- The text of records stands in the grammar for them.
pub use Rattle.trace_texts.proofs.ReadBack.{writable, line-each, text-stands}

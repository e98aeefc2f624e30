-- What the proofs of this crate give to the crates above: they import this file and no other of this folder.

-- No steps, and one more step of a core, by core.
pub use Rattle.trace_reader.proofs.ByCore.{bycore-push}
-- What is to come of a text, and what was taken of it, of parts that follow each other.
pub use Rattle.trace_reader.proofs.StreamLines.{yields-more, yields-none}
pub use Rattle.trace_reader.proofs.QueuedSteps.{known-more, steps-append, cores-append, named-append}
pub use Rattle.trace_reader.proofs.QueuedSteps.{none-taken, more-taken}
-- A text of the grammar is read as the records that it stands for.
pub use Rattle.trace_reader.proofs.RecordAnswers.{record-reads}

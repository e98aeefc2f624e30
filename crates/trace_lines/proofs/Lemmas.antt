-- What the proofs of this crate give to the crates above: they import this file and no other of this folder.

-- What a line tells stands in its fields, or else why it is refused; what stands is told; and no fields tell nothing.
pub use Rattle.trace_lines.proofs.TraceLines.{trace-told, trace-only, trace-nothing}
pub use Rattle.trace_lines.proofs.RecordLines.{record-told, record-only, record-nothing}
pub use Rattle.trace_lines.proofs.FormLines.{form-told, form-only, form-nothing}
pub use Rattle.trace_lines.proofs.OpeningLines.{opening-told, opening-only, opening-nothing}

-- What the proofs of this crate give to the crates above: they import this file and no other of this folder.

-- A text is its first line and the lines of what follows it, which is shorter.
pub use Rattle.text_lines.proofs.ByLines.{lines-none, lines-first, length-behind_line_feed}
-- With one more byte in front, one more is taken, or passed.
pub use Rattle.text_lines.proofs.ByLines.{take-one_more, drop-one_more}

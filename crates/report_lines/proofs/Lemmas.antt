-- What the proofs of this crate give to the crates above: they import this file and no other of this folder.

-- A number's hexadecimal digits: one digit, or the last one behind the others.
pub use Rattle.report_lines.proofs.HexDigits.{hex-one, hex-more}
-- What is left of a list is its next item and what is left behind that; and nothing is, behind the last one. So a loop
-- over a list's items leaves their texts, each behind what parts it from the one before.
pub use Rattle.report_lines.proofs.PartedItems.{drop_next, none_left, parted_next, parted_done}

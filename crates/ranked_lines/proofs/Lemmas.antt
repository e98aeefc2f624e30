-- What the proofs of this crate give to the crates above: they import this file and no other of this folder.

-- A sorted list rises, and is as long as the list. A list but no number.
pub use Rattle.ranked_lines.proofs.SortedLists.{all_but-none, length-sorted, rises-sorted}

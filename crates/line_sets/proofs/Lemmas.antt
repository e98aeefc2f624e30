-- What the proofs of this crate give to the crates above: they import this file and no other of this folder.

-- Laws of one set: look-ups after each change, lengths, and that no line comes twice.
pub use Rattle.line_sets.proofs.OrderLaws.{find-put_in_place_other, find-put_last_other, find-without_other}
pub use Rattle.line_sets.proofs.OrderLaws.{length-put_in_place, length-without_le, length-without_there}
pub use Rattle.line_sets.proofs.OrderLaws.{IsDistinct-put_last, IsDistinct-without}
-- Laws of a table of sets: look-ups and lengths after each change.
pub use Rattle.line_sets.proofs.TableLaws.{length-drop_line, length-put, length-put_within, look-drop_line_other}
pub use Rattle.line_sets.proofs.TableLaws.{look-drop_line_other_set, look-drop_line_same, look-put_other}
pub use Rattle.line_sets.proofs.TableLaws.{look-put_other_set, look-put_same, look-put_within_other}
pub use Rattle.line_sets.proofs.TableLaws.{look-put_within_other_set, look-put_within_same, set_at-set_other}
pub use Rattle.line_sets.proofs.TableLaws.{set_at-set_same}

-- What the proofs of this crate give to the crates above: they import this file and no other of this folder.

-- Records arranged one after another: their members, order, program orders and numbers.
pub use Rattle.physiological_order.proofs.ArrangedRecords.{Follows-issued, Follows-push, Sorted-from_Ascends}
pub use Rattle.physiological_order.proofs.ArrangedRecords.{arranged-push, each_arranged, each_push}
-- One more record behind those of its time or an earlier one: what the records receive, and the memory up to a time.
pub use Rattle.physiological_order.proofs.History.{Keeps, Keeps-load, Keeps-other, Sorted, each_weaker, memory_at-end}
pub use Rattle.physiological_order.proofs.History.{memory_at-placed_before, memory_at-placed_keeps}
pub use Rattle.physiological_order.proofs.History.{memory_at-placed_writes}
-- What is kept of records stays so when one more completes.
pub use Rattle.physiological_order.proofs.Kept.{Kept-issue, Kept-none, Kept-push, Legal-from_Kept, arrangement_of}
-- Records have one arrangement.
pub use Rattle.physiological_order.proofs.Unique.{one_arrangement}

-- What the proofs of this crate give to the crates above: they import this file and no other of this folder.

-- The truth of an expression over the values of the names that it names.
pub use Rattle.litmus_reader.proofs.SeenNames.{truth-is}
-- What has bytes: a text without any ends too early.
pub use Rattle.litmus_reader.proofs.Nothing.{some_of_test, some_before_block}
-- Every test is well formed.
pub use Rattle.litmus_reader.proofs.WellFormedTests.{text_well_formed, well_formed}
-- What is known of a form behind another; what holds of each item of a list, and of one more.
pub use Rattle.litmus_reader.proofs.Names.{leads-behind, each_behind}

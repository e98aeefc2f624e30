mod ListedChanges
mod ListedSums
mod MissingLines
mod OrderLaws
mod RowFinds
mod RowFits
mod RowLaws
mod StoredSets
mod TableLaws
mod Tags
mod TaggedCells
mod Walks
pub mod Lemmas

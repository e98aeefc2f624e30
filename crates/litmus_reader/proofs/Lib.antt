mod Reaching
mod Found
mod Fault
mod Nothing
mod SeenNames
mod OpeningItems
mod Names
mod CellThreads
mod WellFormedTests
pub mod Lemmas

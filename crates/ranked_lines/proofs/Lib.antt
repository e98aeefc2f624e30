mod BlockNeighbours
mod BlockedLists
mod RisingEdits
mod SortedLists
pub mod Lemmas

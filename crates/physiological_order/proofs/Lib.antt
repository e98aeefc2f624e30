mod ArrangedRecords
mod CheckedRecords
mod Deals
mod History
mod Kept
mod Latest
mod LookCounts
mod Merges
mod RecordNumbers
mod PickedRecords
mod ReplaySteps
mod RisingRecords
mod SortedRecords
mod Unique
mod Verdicts
mod WalkSteps
mod WordBound
pub mod Lemmas

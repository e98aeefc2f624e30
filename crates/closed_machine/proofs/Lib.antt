pub mod Lemmas
mod AllWords
mod EmptiedSlots
mod LeftValues
mod MergedRecords
mod Outboxes
mod Places
mod Records
mod RunStates
mod SeatSums

pub mod KeptRecords
pub mod Summaries
pub mod Pieces
pub mod StreamStates

mod AddedRecords
mod StaleRecords
mod CountedRecords
mod JoinedLanes
mod MadePieces
mod GoingRuns
mod EndedRuns
mod IssuedSums
pub mod Lemmas

pub mod Lemmas
mod Closings
mod CountSteps
mod CountSums
mod Frames
mod Openings
mod OwnerSums
mod Phases
mod SeatMoves
mod Seats
mod SetUps
mod SlotSteps
mod Weights

pub mod Ended
pub mod Found
pub mod Plays
pub mod Rule
pub mod SeatMoves
pub mod Serving
pub mod StateLaws

pub mod Ends
pub mod Lines
pub mod Sums
pub mod States
pub mod Text

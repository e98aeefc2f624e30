pub mod SequentialMachine
pub mod Performed
pub mod Example
pub mod Threads
pub mod Openings
pub mod Turns

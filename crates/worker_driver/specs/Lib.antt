pub mod SetUp
pub mod Orders
pub mod Runs
pub mod Outcomes
pub mod AskedRuns
pub mod Batches

mod Bags
mod Lease
mod Lines
mod LineChanges
mod Cores
mod Completions
mod Headline
mod Owners
mod Recalls
mod Coherent
mod BlockedRequests
mod Cases
mod InProgram
pub mod Lemmas

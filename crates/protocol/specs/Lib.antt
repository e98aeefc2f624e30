pub mod Issued
pub mod Machine
pub mod Recalls

pub mod Lease
pub mod LeaseLaws

pub mod Passing
pub mod Renewals

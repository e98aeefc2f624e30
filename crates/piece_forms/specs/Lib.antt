pub mod Places
pub mod Forms
pub mod Faults
pub mod Reading

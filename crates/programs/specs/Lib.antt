pub mod Acts
pub mod Performs

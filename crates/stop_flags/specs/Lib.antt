pub mod Told
pub mod Ties
pub mod Signalers
pub mod Heard

pub mod App
pub mod Additions
pub mod Options
pub mod Job

pub mod Blocked
pub mod Rising

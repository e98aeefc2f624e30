pub mod Rows
pub mod Packed
pub mod Layers
pub mod Orders
pub mod Every

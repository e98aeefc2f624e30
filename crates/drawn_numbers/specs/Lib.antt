pub mod Drawn
pub mod Ties
pub mod Drawers
pub mod Dealt

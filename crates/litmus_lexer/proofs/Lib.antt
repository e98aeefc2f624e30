mod Pieces
mod Fronts
mod Titles
mod NameIndex
pub mod Lemmas

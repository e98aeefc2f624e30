mod Numerals
mod SpacedFields
mod ReadBack
pub mod Lemmas

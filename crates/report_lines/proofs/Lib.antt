mod HexDigits
mod PartedItems
pub mod Lemmas

mod Given
pub mod Lemmas

mod Places
mod Laws
mod Leads
mod Loops
pub mod Lemmas

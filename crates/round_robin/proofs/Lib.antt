mod Places
mod Turned
mod Deals
mod Steps
pub mod Lemmas

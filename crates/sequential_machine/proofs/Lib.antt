mod Doing
mod Tables
mod ThreadSteps
mod Runs
mod Places
mod Outcomes
mod Steps
mod NeverBoth
mod Openings
mod Points
mod TurnsAndSteps
mod TurnsLeft
pub mod Lemmas

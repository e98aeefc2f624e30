mod Cases
mod FittingAnswers
mod Openings
mod Outcomes
pub mod Lemmas

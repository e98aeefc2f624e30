mod NextLine
mod ByCore
pub mod Lemmas
mod OnLines
mod ToldLines
mod Inverses
mod LinesRead
mod StreamLines
mod QueuedSteps
mod LinesMeant
mod TextAnswers
mod StepsMeant
mod RecordsMeant
mod RecordAnswers
mod OpeningsMeant

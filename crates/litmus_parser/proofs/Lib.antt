mod TextPieces
mod ConditionSteps
mod TableSteps
mod ShapeLaws

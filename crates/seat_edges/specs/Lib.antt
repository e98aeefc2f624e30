pub mod PlaceLaws
pub mod BankPlaceLaws
pub mod TurnLaws
pub mod StopLaws
pub mod WaitLaws

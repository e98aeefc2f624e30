pub mod Counting
pub mod Counts
pub mod LossLaw
pub mod Losses
pub mod RowLaw

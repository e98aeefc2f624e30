pub mod Results
pub mod Teams

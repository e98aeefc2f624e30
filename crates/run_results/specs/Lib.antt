pub mod Results
pub mod ErrorLine

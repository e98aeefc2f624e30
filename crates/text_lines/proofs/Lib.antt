mod LineFeeds
mod ByLines
pub mod Lemmas

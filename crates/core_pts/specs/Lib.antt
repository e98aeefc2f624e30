pub mod CoreLaws
pub mod CoreTable
pub mod FreeCopies
pub mod OnCopy
pub mod OpenCopy
pub mod SetUp

pub mod Kinds
pub mod Fields
pub mod Fronts
pub mod Spelling
pub mod Reading
pub mod Views
pub mod Grammar
pub mod Causes

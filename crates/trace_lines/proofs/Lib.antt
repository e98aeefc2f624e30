mod Parts
mod FrontNumbers
mod HexBound
mod Rules
mod Spellings
mod FieldKinds
mod TraceLines
mod RecordLines
mod FormLines
mod OpeningLines
pub mod Lemmas

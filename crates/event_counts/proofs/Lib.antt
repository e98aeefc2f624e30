mod CompletedOps
mod CountSizes
mod CountedRows
mod HashedMaps
mod KeptCounts
mod LossNotes
mod SentMessages
mod TakenCopies

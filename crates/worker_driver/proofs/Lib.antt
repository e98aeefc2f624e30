mod OnOk
mod Rows
mod Sequential
mod SharedRuns
mod SameBatches
mod SameRuns

mod CoreCounts
mod LastWrites
mod MetValues
mod SystemSteps
mod Told

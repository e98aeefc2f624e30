mod Issued
mod Listed
mod Message
mod Opened
mod Passed

mod Found
mod Numbers
mod Arguments
mod HelpIsRefused
mod Ranges

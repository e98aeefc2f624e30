pub mod Clerks

pub mod BankLaws
pub mod BankTable
pub mod OnEntry
pub mod OwnSets
pub mod Settled
pub mod SetUp

pub mod Records
pub mod Reports
pub mod CountLines
pub mod Verdicts

pub mod Names
pub mod Written
pub mod Stages
pub mod Verdicts
pub mod Schedule
pub mod Reads

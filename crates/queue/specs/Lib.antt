pub mod Counter
pub mod Line
pub mod Stages

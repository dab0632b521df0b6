pub mod Past
pub mod Pushing

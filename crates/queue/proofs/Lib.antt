pub mod Written
pub mod Counting
pub mod Ordering
pub mod Staging
pub mod Turns
pub mod Turnwise

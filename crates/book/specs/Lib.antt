pub mod Causes
pub mod Stock
pub mod History
pub mod Life
pub mod Law
pub mod Ran

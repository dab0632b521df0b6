pub mod Numbers
pub mod Rules
pub mod Calls
pub mod Distance
pub mod Names
pub mod Algorithms
pub mod Single
pub mod Spinlocks

pub mod Small
pub mod Least
pub mod Pair
pub mod Labelled
pub mod Spinning

pub mod Machine
pub mod Table
pub mod Bounds

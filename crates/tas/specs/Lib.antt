pub mod Accesses
pub mod Distance

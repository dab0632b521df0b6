pub mod Faults
pub mod Decimal
pub mod Cuts
pub mod Lines
pub mod Ahead
pub mod Wrong

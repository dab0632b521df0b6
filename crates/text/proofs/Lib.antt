pub mod Cutting
pub mod First
pub mod Digits
pub mod Forms
pub mod Exits

pub mod KindNames
pub mod Steps
pub mod Once
pub mod Forms
pub mod Whole

pub mod Printed
pub mod Overwrite

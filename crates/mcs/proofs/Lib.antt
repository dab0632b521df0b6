pub mod Keeps
pub mod Nearing
pub mod Rules

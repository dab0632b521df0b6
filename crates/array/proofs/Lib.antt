pub mod Keeps
pub mod Kind
pub mod Rules

pub mod Ended
pub mod Transcribed

pub mod Ends
pub mod Transcripts

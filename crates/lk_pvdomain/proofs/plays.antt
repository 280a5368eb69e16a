pub mod StatePlays
pub mod MarkPlays

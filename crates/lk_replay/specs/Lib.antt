pub mod Transcript
pub mod Outcome
pub mod Reads
pub mod Header
pub mod Schedule
pub mod Run
pub mod Stands

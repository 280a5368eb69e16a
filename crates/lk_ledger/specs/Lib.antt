pub mod Reading
pub mod Outcome

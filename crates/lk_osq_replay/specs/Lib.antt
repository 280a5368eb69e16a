pub mod Run
pub mod Script
pub mod Grows
pub mod Outcome

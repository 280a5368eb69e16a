pub mod Lawful
pub mod Auditor
pub mod Stands
pub mod Outcome

pub mod Judging
pub mod Told
pub mod Grows
pub mod Turns
pub mod Auditing
pub mod Headers
pub mod Once
pub mod Lines

pub mod Pieces
pub mod Cuts
pub mod Places
pub mod ReadOn
pub mod Turns
pub mod Answered
pub mod Complete

pub mod Moments
pub mod Places
pub mod Sums
pub mod ByIndex

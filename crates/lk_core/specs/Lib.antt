pub mod Idle
pub mod Ready

pub mod Packed
pub mod Hashed
pub mod Ready
pub mod Parts

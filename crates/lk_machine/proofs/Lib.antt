pub mod Hashed
pub mod Kept
pub mod Packed
pub mod Powers
pub mod Release
pub mod Rested
pub mod Words

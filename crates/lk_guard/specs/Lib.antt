pub mod Guards
pub mod Idle
pub mod Holding
pub mod Reads
pub mod Settling
pub mod Writes
pub mod Deeds

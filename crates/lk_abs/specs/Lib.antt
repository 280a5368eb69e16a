pub mod Allowed
pub mod Breaches
pub mod Judge
pub mod Remembered
pub mod NoKick

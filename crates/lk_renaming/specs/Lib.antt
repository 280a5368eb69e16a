pub mod Renaming
pub mod Renamed
pub mod Named
pub mod Law

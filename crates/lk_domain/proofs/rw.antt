pub mod Numbers
pub mod OnShared
pub mod Plays
pub mod Stepped
pub mod Released

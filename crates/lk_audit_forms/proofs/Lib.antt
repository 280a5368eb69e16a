pub mod Marks
pub mod Numbers
pub mod Names
pub mod Whats
pub mod Events
pub mod Cuts
pub mod Closings

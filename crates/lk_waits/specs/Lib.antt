pub mod Waits
pub mod Order
pub mod Followed
pub mod Aside
pub mod Halting
pub mod Attended

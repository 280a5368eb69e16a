-- One row of a call, and where it leads.
pub mod Ways
pub mod Waits
pub mod Leads
pub mod Hands
pub mod Arrives
pub mod Frees
pub mod Kept
pub mod Rested
pub mod Tried

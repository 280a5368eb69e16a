-- Where processors halt: the bound, and fair schedules.
pub mod Knows
pub mod Parts
pub mod Turns
pub mod Descends
pub mod Spins
pub mod Bound
pub mod Potential
pub mod Ends
pub mod Budget
pub mod Rest
pub mod Around
pub mod Like
pub mod Calm
pub mod Back
pub mod Fair

-- What a domain of running processors rests on beside the laws of the rows.
pub mod Nodes
pub mod Holds
pub mod SharedHolds
pub mod Leads
pub mod Calm
pub mod Tells
pub mod Links

pub mod Names
pub mod Lists
pub mod Effects
pub mod Cpus
pub mod Writes
mod SpinRows
mod QueueRows
mod ChoiceRows
mod PvRows
mod RwRows
mod Leading
mod Stores
mod Rows
pub mod Goes
mod Later
mod LaterRows
mod LaterActs
pub mod Runs
pub mod Composed
pub mod Bared

pub mod Names
pub mod Lists
pub mod Frames
pub mod Writes
pub mod Leading
mod Branches
mod Stores
mod SpinRows
mod QueueRows
mod ChoiceRows
mod PvRows
mod RwRows
mod Rows
mod FineRows
pub mod FreeNodes
pub mod FreeWrites
mod FreeLeading
mod FreeRows
mod FreeGoes
pub mod Goes

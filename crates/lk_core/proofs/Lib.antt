pub mod Names
mod Lists
pub mod Access
mod Entries
pub mod Worlds
pub mod Seated
pub mod Same
mod Walks
mod Settle
mod RowsFit
mod PvRowsFit
mod ChoiceRowsFit
mod NodesFit
pub mod Moved
pub mod Leads
pub mod LeadsOut
mod Kicks
pub mod Stores
mod Reach
pub mod RwMoved
pub mod RowKept
mod Stands
mod RowParts
pub mod ActKept
mod FrameComes
mod Parts
pub mod Setups
pub mod Rest
mod RestPhases
pub mod Runs
mod CountsKept
pub mod IdleActs
mod HashRoom
mod Stored
mod ReadyRows
mod ActDone
pub mod Sights

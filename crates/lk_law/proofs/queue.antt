-- The queue: its waiters, its links, and the rows of the slow path.
pub mod Keep
pub mod Arrive
pub mod Lead
pub mod Link
pub mod Pass
pub mod Sole
pub mod EntryLaws
pub mod Laws
pub mod Walks
pub mod EntryRowsKeep
pub mod FrontRowsKeep
pub mod ArriveRowsKeep
pub mod Move
pub mod Insert

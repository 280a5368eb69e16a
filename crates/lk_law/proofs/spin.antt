-- The rows on a word that need no queue, with the hold of a lock and its pending bit.
pub mod Hold
pub mod Pend
pub mod Laws
pub mod PendingLaws
pub mod RowsKeep
pub mod PendingRowsKeep

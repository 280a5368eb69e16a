-- Readers and writers: who is counted, who holds, who waits, and their rows.
pub mod Each
pub mod Hold
pub mod Laws
pub mod Else
pub mod Phases
pub mod Kept
pub mod RowsKeep
pub mod Goes
pub mod Begins
pub mod Knows
pub mod Few

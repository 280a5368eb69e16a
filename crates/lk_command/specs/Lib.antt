pub mod Status
pub mod Args
pub mod Ends
pub mod OsqRuns
pub mod Audits
pub mod Ledgers
pub mod Means

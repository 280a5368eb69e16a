pub mod Grammar
pub mod Line
pub mod Reads
pub mod Outside
pub mod Outcome
pub mod Stands
pub mod Headers

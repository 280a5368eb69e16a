pub mod Keywords
pub mod Lines
pub mod Schedule
pub mod Grammar
pub mod Table
pub mod Reader
pub mod Texts
pub mod Trace

pub mod Parts
pub mod EventLines
pub mod Ranges
pub mod Closing
pub mod Grammar
pub mod Texts
pub mod Exact
pub mod ExactClosing

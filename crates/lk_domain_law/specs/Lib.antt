pub mod InOrder
pub mod Kept
pub mod GoingOn
pub mod Circles

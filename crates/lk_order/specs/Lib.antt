pub mod Checked
pub mod Claims

-- Lemmas of single parts of the crate: few functions use each.
pub mod Deepest
pub mod Moves
pub mod Leading
pub mod Marks
pub mod Used
pub mod Firsts
pub mod Finding
pub mod Noted
pub mod Helped
pub mod Copied
pub mod Orders
pub mod Alike
pub mod Remembered
pub mod Grown
pub mod Counts
pub mod Going

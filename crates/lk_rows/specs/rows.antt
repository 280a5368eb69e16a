-- The rows as data, a file for each family.
pub mod Spin
pub mod Queue
pub mod Cna
pub mod Pv
pub mod Rw

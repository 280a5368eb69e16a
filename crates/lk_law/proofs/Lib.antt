pub mod Names
pub mod common
pub mod spin
pub mod queue
pub mod cna
pub mod pv
pub mod rw
pub mod running

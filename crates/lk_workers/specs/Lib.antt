pub mod Plans
pub mod Workers
pub mod UnderLock
pub mod Ended

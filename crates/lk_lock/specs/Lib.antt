pub mod Turns
pub mod Standing
pub mod Cells
pub mod Made
pub mod Lending
pub mod Ended

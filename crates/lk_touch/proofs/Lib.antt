pub mod Touching
pub mod TouchingRows
pub mod TouchingStores
pub mod TouchedRows

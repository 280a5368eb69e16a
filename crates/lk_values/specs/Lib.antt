pub mod Guarded
pub mod Laws

pub mod RunLemmas
pub mod Obeyed
pub mod Finished

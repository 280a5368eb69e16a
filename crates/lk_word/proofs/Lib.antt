mod Masks
pub mod SpinWordLemmas
pub mod RwWordLemmas

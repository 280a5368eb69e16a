pub mod Lives
pub mod Free
pub mod Alike

pub mod Kept
pub mod Drafts
pub mod Lawful
pub mod JobTexts
pub mod Told
pub mod OutcomeTexts
pub mod Numbers
pub mod Files
mod Examples

mod Examples
pub mod WordLemmas
pub mod FrontLemmas
pub mod StepLines
pub mod Decimals
pub mod WalkLemmas
pub mod OpsLemmas
pub mod Changes
pub mod Roomy
pub mod Readings
pub mod ScheduleLemmas
pub mod LawfulPrograms
pub mod Lawful
pub mod TextParts
pub mod WhatLemmas
pub mod TextLemmas
pub mod TranscriptLemmas
pub mod Places

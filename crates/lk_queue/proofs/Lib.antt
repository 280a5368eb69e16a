pub mod Leads
pub mod Own

pub mod Areas
pub mod Arrays
pub mod Fields
pub mod Journals
pub mod Parts
pub mod Summaries

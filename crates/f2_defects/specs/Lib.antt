pub mod Collected
pub mod Refusals
pub mod Verdicts

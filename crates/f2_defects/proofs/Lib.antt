pub mod Collecting
pub mod Runs

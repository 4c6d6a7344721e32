pub mod Blocks
pub mod MemorySteps
pub mod Runs
pub mod SinkRuns

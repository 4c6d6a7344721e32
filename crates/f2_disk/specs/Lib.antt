pub mod Calls
pub mod Calm
pub mod Disk
pub mod Fakes
pub mod Memory
pub mod MemoryLaws
pub mod Sink
pub mod Stop

pub mod Directories
pub mod Mounted
pub mod Mounting
pub mod Readings

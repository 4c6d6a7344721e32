pub mod Addresses
pub mod Extents
pub mod Files
pub mod Kept
pub mod Repeats
pub mod Usage

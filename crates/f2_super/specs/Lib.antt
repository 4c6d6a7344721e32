pub mod Choice
pub mod Copy
pub mod Filled
pub mod Geometry
pub mod Load
pub mod NewCopy
pub mod Unsealed

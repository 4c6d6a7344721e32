pub mod Pigeons
pub mod Rows
pub mod Walks

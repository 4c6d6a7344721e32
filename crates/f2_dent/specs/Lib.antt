pub mod Built
pub mod Entries
pub mod Names
pub mod Pages
pub mod Places
pub mod Scan

pub mod Bounds
pub mod CleanImages
pub mod Deciding
pub mod FewDefects

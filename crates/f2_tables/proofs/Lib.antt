pub mod Appends
pub mod FirstRecords
pub mod Least
pub mod Marks
pub mod Puts
pub mod Walk

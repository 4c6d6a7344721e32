pub mod Bands
pub mod DirectoryReads
mod Mounts
pub mod NodeReads
pub mod Pushes
mod Renewed
pub mod Rows
pub mod ScannedItems
pub mod SummaryReads
pub mod TableReadings
pub mod TreeReads
pub mod Walks

pub mod CopiedSummaries
pub mod Emptied
pub mod Laws
pub mod MovedLogs
pub mod Relaid

pub mod Building
pub mod Defaults
pub mod FeatureLists
pub mod Getters
pub mod Grammars
pub mod Known
pub mod KnownFeatures
pub mod Letters
pub mod Parsed
pub mod Moving
pub mod Parses
pub mod Readable
pub mod Repairing
pub mod Spelling
pub mod Turns
pub mod Unmounted
pub mod Used
pub mod UuidDigits
mod Alone
mod Answered
mod Digits
mod Missing
mod Texts
mod Verdicts

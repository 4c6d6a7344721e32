pub mod FooterParts
pub mod PutNumbers
pub mod Rows
pub mod SlotCounts
pub mod Steps
mod ZeroWords

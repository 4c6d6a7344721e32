pub mod AllMarks
pub mod FoundPlaces
pub mod FsyncSteps
pub mod MarkSteps
pub mod NumbersBelow
pub mod SlotWords
pub mod SupportInMain
pub mod UsedWords

pub mod FilesLaws
pub mod NameLists
pub mod Visits

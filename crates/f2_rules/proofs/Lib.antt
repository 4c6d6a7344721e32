pub mod Beginnings
pub mod AddressesMet
pub mod PartsMet
pub mod MetRules
pub mod SlotParts
pub mod Gathered

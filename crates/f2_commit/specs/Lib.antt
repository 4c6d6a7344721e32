pub mod Following
pub mod FreeNids
pub mod Laws
pub mod Moves
pub mod RelocRefusals
pub mod ShiftRefusals
pub mod Shifting

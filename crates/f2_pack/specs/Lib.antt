pub mod Choice
pub mod Held
pub mod Laws
pub mod Logs
pub mod Valid
pub mod Written

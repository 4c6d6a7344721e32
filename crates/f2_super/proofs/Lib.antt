pub mod Agree
pub mod Filled
pub mod Loadable
pub mod Repairs
pub mod NewCopies
pub mod NewSizes

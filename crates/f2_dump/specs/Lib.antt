pub mod Dump
pub mod Fields
pub mod Files
pub mod Orders
pub mod Stacks
pub mod Text
pub mod Trees
pub mod Walk

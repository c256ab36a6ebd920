pub mod Run
pub mod Reached

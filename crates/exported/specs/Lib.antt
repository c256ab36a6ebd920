pub mod Passed
pub mod Reached

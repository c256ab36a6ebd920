pub mod State
pub mod Mixes
pub mod Reached

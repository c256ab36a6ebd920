pub mod Floored
pub mod Granted

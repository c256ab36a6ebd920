pub mod Wrench

pub mod Layout
pub mod Refusal
pub mod Choice
pub mod Entry

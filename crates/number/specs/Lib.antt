pub mod Treat
pub mod Moderate
pub mod InTurn

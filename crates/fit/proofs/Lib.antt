pub mod Step
pub mod Walk
pub mod Bounded
pub mod Room
pub mod Fitting
pub mod Cut
pub mod Determined
pub mod Examples

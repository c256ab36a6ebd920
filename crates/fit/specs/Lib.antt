pub mod Fit
pub mod Cut

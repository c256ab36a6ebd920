-- The Rust's own text as definitions: the forms of its language, then its functions, from the small to the large.
pub mod Forms
pub mod Numbers
pub mod Solve
pub mod Fit
pub mod State
pub mod Plain
pub mod ThrustFloor
pub mod Priority
pub mod Airmode
pub mod RotorOut
pub mod Torque
pub mod MixerN
pub mod Multi

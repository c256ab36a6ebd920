-- That the Rust's text and document 01's rules are one: literals, numbers and loops, then a mix a file, with what it
-- needs beside it; and last, over all public contracts, that what they ask for is what the Rust's functions give
-- (`Contracts`).
pub mod Literals
pub mod Numbers
pub mod Loops
pub mod Plain
pub mod Fit
pub mod ThrustFloor
pub mod Priority
pub mod Span
pub mod Airmode
pub mod Solve
pub mod RotorOut
pub mod Torque
pub mod Lowered
pub mod MixerN
pub mod Multi
pub mod Contracts

-- `Nan` has what a test for a NaN tells.
pub mod Nan

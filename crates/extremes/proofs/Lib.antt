-- The walk that `reduce` makes over the numbers.
pub mod Walk

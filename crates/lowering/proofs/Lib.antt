-- The excess that is taken from every motor.
pub mod Taken

-- `Choice` has the laws of `cond`, by which the code's choices are told; `Moderate`, how large a moderate number is,
-- and that three of them add up to a finite one.
pub mod Choice
pub mod Moderate

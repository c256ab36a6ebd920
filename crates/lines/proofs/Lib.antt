-- `Parts` has the laws of a part of what is printed, and `Determined` says that each public contract determines the
-- text and the answer.
pub mod Parts
pub mod Determined

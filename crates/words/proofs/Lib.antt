-- `Agree` has the laws of `specs/Words.antt`.
pub mod Agree

-- `First` has the laws of "first that applies".
pub mod First

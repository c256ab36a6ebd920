-- What the contracts of `operations` cite.
pub mod Operated

-- `LittleEndian` has the laws of `specs/Bytes.antt`, for the proofs of this crate and of the crates that link it;
-- `Library` ties them to the library's `to_le_bytes` and `from_le_bytes`; `Part` has what becomes of a part that is
-- lent to a call.
pub mod LittleEndian
pub mod Library
pub mod Part

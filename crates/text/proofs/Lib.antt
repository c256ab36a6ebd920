-- `Spelling` has the digits that the kit's crate io gives in the words of `specs/Digits.antt`, `Examples` these words
-- at a few numbers, and `Determined` that a contract leaves nothing open.
pub mod Spelling
pub mod Examples
pub mod Determined

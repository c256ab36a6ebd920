-- What the refusal rule says of a sheet, in the order in which its lines are tried: `Head`, `Entry` and `Walk`;
-- `Accepted`, what an accepted sheet is known by; `Verdicts`, what a verdict says of the number; `Numbers`, that a
-- sheet is told at most 8; and `Determined`, that the contract leaves nothing open.
pub mod Head
pub mod Entry
pub mod Walk
pub mod Accepted
pub mod Verdicts
pub mod Numbers
pub mod Determined

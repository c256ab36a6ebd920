-- From the general to the particular: sizes and their order; rounding as the kit does it (`RoundedSize`, `Rounded`) and
-- the operations as roundings; then that this is what the standard has delivered (`Values` to `Exact`) and how far it
-- lies from the exact result (`HalfUnit`, `Near`); decimals, products, ranges and zeros; and last the rows of the
-- standard for each operation, which leave one result: the four of arithmetic, then comparison, signs, the tests for
-- NaN and finite, and the encoding.
pub mod Tests
pub mod Magnitude
pub mod Order
pub mod Comparison
pub mod RoundedSize
pub mod Positive
pub mod Rounded
pub mod Integers
pub mod Operations
pub mod Values
pub mod LastDigit
pub mod NearestSize
pub mod Bound
pub mod Sides
pub mod Toward
pub mod Delivered
pub mod Exact
pub mod HalfUnit
pub mod Near
pub mod Decimals
pub mod Products
pub mod Absolute
pub mod Masked
pub mod Range
pub mod Overflow
pub mod Sizes
pub mod NearExamples
pub mod LessOne
pub mod Zero
pub mod OperationsMet
pub mod OneResult
pub mod Answers
pub mod ComparisonMet
pub mod SignsMet
pub mod TestsMet
pub mod Fields
pub mod EncodingMet

-- `Printed` has what is printed by the verdict, `Determined` that the contract leaves nothing open, and `Examples`
-- document 01's three sheets.
pub mod Printed
pub mod Determined
pub mod Examples

-- `Chosen` has what the number of a choice says of the answer, `Numbers` which number the kind and the rotor byte of
-- an entry get, `Commands` which command, and `Determined` that the contracts leave nothing open.
pub mod Chosen
pub mod Numbers
pub mod Commands
pub mod Determined

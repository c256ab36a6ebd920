-- Functions over a lent struct, walked by hand, each kind once and for all structs. `Extras`: the parameters that are
-- only passed on, in the code; `PassedOn`: the same in the signatures. `Calling`: what a caller has of the function
-- that it calls. `Walk`: the code over a `&mut`; `Loan`: its contract; `Lending`: the theorems `lends` and `makes`.
-- `Reading`: the theorem `reads`, over a `&`; `Copying`: the theorem `copies`.
pub mod Extras
pub mod PassedOn
pub mod Calling
pub mod Walk
pub mod Loan
pub mod Lending
pub mod Reading
pub mod Copying

-- `Bodies`: an accepted sheet's bodies lie within it and tile it, and what is handed back of it. `Determined`: the
-- contract leaves nothing open.
pub mod Bodies
pub mod Determined

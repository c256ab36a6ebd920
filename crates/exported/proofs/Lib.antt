-- `Unchanged`: what is refused leaves what was lent as it was. `Torque`: the sums in a state that is reached are those
-- of its motors. `Determined`: the contracts leave nothing open.
pub mod Unchanged
pub mod Torque
pub mod Determined

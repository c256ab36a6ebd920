-- `QuadMixed`: what a mix answers, put together. `Torque`: the stored sums are those of the motors. `Determined`: the
-- contracts leave nothing open.
pub mod QuadMixed
pub mod Torque
pub mod Determined

-- From the general to the particular: runs, rows and their decimals, sums; how many motors a mix answers; clamping,
-- what treating leaves as it is, the torque of motors in 0..1, what a floor counts as, and the extremes; then what each
-- mix promises (`specs/Promises.antt`), a file a promise; `Keeps` has each mix's promises whole, `NoMotors` shows that
-- no motors do not keep them, `Examples` that they can be met, and `Figures` has the starred bench figures.
pub mod EachMotor
pub mod Runs
pub mod Rows
pub mod Decimals
pub mod Sums
pub mod Count
pub mod Clamp
pub mod Moderate
pub mod TorqueFinite
pub mod FloorCounts
pub mod Extremes
pub mod Bounded
pub mod Ordered
pub mod FittingSum
pub mod ThrustFloorFitting
pub mod PriorityFitting
pub mod AirmodeFitting
pub mod Plain
pub mod QuadX
pub mod Keeps
pub mod NoMotors
pub mod Examples
pub mod Figures

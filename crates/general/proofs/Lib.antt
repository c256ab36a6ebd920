-- Lists and runs of numbers (`Lists`, `Four`, `Filled`), what the walk of the code knows of an array of floats
-- (`Held`), what a test of two says (`Neither`), what it is for a contract to determine its answer (`Determined`), and
-- what `map` of an array gives (`Mapped`).
pub mod Neither
pub mod Lists
pub mod Four
pub mod Filled
pub mod Held
pub mod Determined
pub mod Mapped

pub mod Body
pub mod Place

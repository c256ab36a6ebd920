-- What the functions answer, put together; what document 02 says of the thrust column, of no rotors, of the quad's rows
-- and of a refusal, a file each; that the contracts leave nothing open; and a hard roll, computed.
pub mod Answers
pub mod ThrustColumn
pub mod NoRotors
pub mod QuadRows
pub mod Refused
pub mod Determined
pub mod Examples

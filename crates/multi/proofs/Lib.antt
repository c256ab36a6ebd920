-- What `mix` answers, put together, and that its contract determines the answer.
pub mod Answers
pub mod Determined

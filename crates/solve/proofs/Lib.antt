-- `Column`: a column replaced as far as a loop has come.
pub mod Column

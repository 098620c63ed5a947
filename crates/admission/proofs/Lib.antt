-- Laws that callers cite. Assumes nothing.
pub mod Answers
pub mod Opened

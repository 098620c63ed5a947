-- Laws of answers as words. Assumes nothing.
pub mod Words
pub mod Back

-- Laws of words, of lines and of writing. Assumes nothing.
pub mod Decimal
pub mod Words
pub mod Writing
pub mod Lines
pub mod Values

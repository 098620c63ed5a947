pub mod Words
pub mod Bits

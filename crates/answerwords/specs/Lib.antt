-- Answers as C and Rust are handed them. Assumes nothing.
pub mod Codes

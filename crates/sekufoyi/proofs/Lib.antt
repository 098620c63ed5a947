-- Laws of the entries for C and Rust. Assumes nothing.
pub mod Telling

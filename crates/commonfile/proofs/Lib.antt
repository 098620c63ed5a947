-- Laws that the proofs of this crate's functions, and of its callers, cite. Assumes nothing.
pub mod Lines
pub mod Digits
pub mod Cut
pub mod Prefix

-- Laws that the proofs of this crate's functions, and of its callers, cite. Assumes nothing.
pub mod Tables
pub mod Limits
pub mod Loop

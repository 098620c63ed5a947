-- Laws that the proofs of this crate's functions, and of its callers, cite. Assumes nothing.
pub mod Splitting
pub mod Counting

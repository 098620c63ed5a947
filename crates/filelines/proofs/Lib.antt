-- Laws that the proofs of this crate's functions, and of its callers, cite. Assumes nothing.
pub mod Comparing
pub mod DueLines
pub mod InOrder
pub mod RowBytes

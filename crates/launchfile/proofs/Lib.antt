-- Laws that the proofs of this crate's functions cite. Assumes nothing.
pub mod Answered
pub mod ContentLines
pub mod Whole

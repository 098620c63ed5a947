-- Laws that the proofs of this crate's functions cite. Assumes nothing.
pub mod Times
pub mod Filling
pub mod RowLoop
pub mod CellLoop

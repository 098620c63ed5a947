-- The launch that a file gives. Assumes nothing.
pub mod Whole
pub mod Parts

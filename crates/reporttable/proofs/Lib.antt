-- The lists of lines, opened; the bytes of lines, and their writing. Assumes nothing.
pub mod Opened
pub mod Lists

-- What the reader of the number lines answers. Assumes nothing.
pub mod Answered

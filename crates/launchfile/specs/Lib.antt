-- What the reader of a launch file answers. Assumes nothing.
pub mod Parsed

-- What reading a launch file and checking its table come to. Assumes nothing.
pub mod Founds

pub mod Tables
mod Plain
pub mod Registers
pub mod Recorded
pub mod Arms

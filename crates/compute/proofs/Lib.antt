mod Ops
mod Values
mod Putting
mod Stored
pub mod Turns

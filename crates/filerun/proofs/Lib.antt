pub mod Front
pub mod Running
pub mod Founds

mod Stretches
mod Buffers
mod Between
mod Launching
pub mod LaunchStart
mod Turns
pub mod Results

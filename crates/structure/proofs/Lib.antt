pub mod Refusals
pub mod Ops
pub mod Nesting
pub mod Checking
pub mod Writing
pub mod Reading
pub mod Standing
pub mod Acceptance

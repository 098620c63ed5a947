pub mod OpBytes
pub mod Passing
pub mod Noting
pub mod Constructs
pub mod Whole
pub mod Ready

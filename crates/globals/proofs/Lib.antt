pub mod GlobalAccesses
pub mod GlobalRows

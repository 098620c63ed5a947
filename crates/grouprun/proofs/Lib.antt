mod RowBytes
pub mod Recording
mod Starting
mod Going

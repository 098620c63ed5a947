pub mod Recording
pub mod Arms

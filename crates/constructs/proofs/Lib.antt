mod Words
pub mod Rows
pub mod Barrier
pub mod Arms

pub mod RowKinds
pub mod Arms

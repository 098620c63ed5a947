pub mod RowLanes

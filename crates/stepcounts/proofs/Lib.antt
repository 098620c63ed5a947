-- Laws of the step counts. Assumes nothing.
pub mod Adding
pub mod Members
pub mod RowSteps
pub mod Tallies
pub mod NextCounts

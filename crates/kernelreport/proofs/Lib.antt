-- The report of one kernel over common cells. Assumes nothing.
pub mod Cases

-- The reports of two kernels, one behind the other. Assumes nothing.
pub mod BothReports

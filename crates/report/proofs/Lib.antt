-- Laws of the whole report. Assumes nothing.
pub mod Parts
pub mod Entry

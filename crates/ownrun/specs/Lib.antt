-- A launch that is run on buffers of its own. Assumes nothing.
pub mod OwnRuns

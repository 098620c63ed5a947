-- Lines of a report, and writing from a place on. Assumes nothing.
pub mod Lines
pub mod Places

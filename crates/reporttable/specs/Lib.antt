-- The values of a run's lines, and lines that are made of items. Assumes nothing.
pub mod Values
pub mod Items

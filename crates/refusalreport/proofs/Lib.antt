-- The report of a refusal. Assumes nothing.
pub mod Refusals

-- A refusal as two words. Assumes nothing.
pub mod Words

-- Where the kinds of a part's words are put in the launch's buffer. Assumes nothing.
pub mod Kinds

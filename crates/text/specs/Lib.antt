-- What the code of this crate answers, in terms of the definition's text. Assumes nothing.
pub mod Parts
pub mod Numbers

-- What the first line of a text says, as the code of this crate answers it. Assumes nothing.
pub mod Lines
pub mod Values

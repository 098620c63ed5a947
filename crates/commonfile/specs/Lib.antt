-- What the reader of the common file answers. Assumes nothing.
pub mod CommonRead

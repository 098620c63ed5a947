-- An admission, said as a refusal. Assumes nothing.
pub mod Refusing

-- Laws of the records. Assumes nothing.
pub mod AddingUp
pub mod Ledger

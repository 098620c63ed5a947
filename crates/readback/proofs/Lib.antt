-- Laws of a report that is read from its bytes. Assumes nothing.
pub mod Numbers
pub mod Clean
pub mod Back
pub mod Ends
pub mod Reports
pub mod Runs
pub mod Pairs

pub mod Stretches
pub mod KindLaws
pub mod Logs

pub mod GroupTests

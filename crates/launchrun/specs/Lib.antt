pub mod Launches

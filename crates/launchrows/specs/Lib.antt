pub mod LaunchRows

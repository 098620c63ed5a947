-- What reading the rows and the cells of a launch file comes to. Assumes nothing.
pub mod Taken

-- What an accepted launch's run asks and leaves. Assumes nothing.
pub mod Launches

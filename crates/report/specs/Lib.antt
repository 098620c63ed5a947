-- The subjects of a report, and the room that every report fits in. Assumes nothing.
pub mod Subjects

pub mod Counts
pub mod Answered
pub mod LineEach

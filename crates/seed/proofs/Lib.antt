pub mod Extended
pub mod Rule
pub mod Steps
pub mod Undone
pub mod Bytes
pub mod Back
pub mod Vectors

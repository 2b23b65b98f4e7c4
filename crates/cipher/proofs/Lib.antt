pub mod Tables
pub mod BytesOfWords
pub mod Joined

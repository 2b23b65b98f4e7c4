pub mod Boxes
pub mod Field
pub mod Function
pub mod Keys
pub mod Seed
pub mod Vectors

pub mod Chain
pub mod Compare
pub mod Message
pub mod Padding
pub mod Sealer
pub mod WorkpadMessage

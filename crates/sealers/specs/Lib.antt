pub mod CardSealer
pub mod Examples

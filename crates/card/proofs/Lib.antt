pub mod Steps
pub mod Zeros
pub mod Words
pub mod Codes
pub mod RoundTrips
pub mod Rules
pub mod Issues

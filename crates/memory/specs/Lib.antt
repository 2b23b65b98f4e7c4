pub mod Faults
pub mod Pages
pub mod ImagePages
pub mod WearingPages
pub mod Plan

pub mod Chains
pub mod Compared
pub mod Padded

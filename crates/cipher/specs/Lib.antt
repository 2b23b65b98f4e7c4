pub mod Cipher
pub mod Words

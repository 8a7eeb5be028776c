pub mod Digits
pub mod Changes
pub mod Words

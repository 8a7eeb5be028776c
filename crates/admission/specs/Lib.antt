pub mod Held
pub mod Rows
pub mod Tested
pub mod Views
pub mod Verdicts

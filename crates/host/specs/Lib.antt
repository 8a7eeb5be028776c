pub mod Answered
pub mod Checked
pub mod Determined
pub mod Entered
pub mod Rows
pub mod Written

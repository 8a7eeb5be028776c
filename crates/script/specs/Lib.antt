pub mod Commands
pub mod Kept
pub mod Names
pub mod Reads
pub mod RecordLaw
pub mod Sessions
pub mod Setups
pub mod Views

pub mod Lines
pub mod Playing
pub mod Spoken
pub mod Worked

pub mod Boards
pub mod Events
pub mod Holding
pub mod Runs
pub mod Sound
pub mod Ticks

mod Best
mod Filling
mod Deciding
mod Iteration
pub mod Kept
pub mod Unique

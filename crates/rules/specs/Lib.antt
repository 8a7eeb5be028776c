pub mod Choices
pub mod Figure
pub mod Kinds
pub mod Layers
pub mod Points

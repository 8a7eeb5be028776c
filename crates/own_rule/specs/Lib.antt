pub mod Higher
pub mod Same

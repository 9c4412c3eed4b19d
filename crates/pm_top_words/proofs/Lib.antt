pub mod Fronts
pub mod Givens
pub mod Lines

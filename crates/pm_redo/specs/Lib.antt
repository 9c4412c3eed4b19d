pub mod Found
pub mod Redo

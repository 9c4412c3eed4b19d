pub mod Lawful
pub mod Reading

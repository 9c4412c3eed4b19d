pub mod Utf8
pub mod Steps
pub mod States
pub mod Characters

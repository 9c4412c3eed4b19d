pub mod Kept
pub mod Redos
pub mod FileLaws

pub mod Scripts
pub mod Taken
pub mod AttentionLaws

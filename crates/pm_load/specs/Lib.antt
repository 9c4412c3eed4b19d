pub mod Queries
pub mod Replay
pub mod Summary

pub mod Again
pub mod AsRead
pub mod Moments
pub mod Replay
pub mod Stopped
pub mod Tear
pub mod DiskLaws

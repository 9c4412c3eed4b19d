pub mod Links
pub mod Reading
pub mod Streams
pub mod Hearings
pub mod Talks

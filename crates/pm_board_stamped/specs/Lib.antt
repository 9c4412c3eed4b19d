pub mod Stamped
pub mod StampedLaws

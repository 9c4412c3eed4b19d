pub mod Replaying
pub mod Crashing
pub mod Journals
pub mod WorkedCrashProofs
pub mod CrashLaws

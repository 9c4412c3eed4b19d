pub mod Cause
pub mod Disk
pub mod FailingDisk
pub mod Files
pub mod MemDisk
pub mod Past
pub mod Skipped
pub mod Stop

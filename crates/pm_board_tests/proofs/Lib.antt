pub mod Drives
pub mod GateBoards
pub mod GatePosts
pub mod LatchBoards
pub mod Counters

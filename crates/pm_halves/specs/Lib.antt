pub mod Halves
pub mod Sitting
pub mod Steps
pub mod Places
pub mod Seats

pub mod Lifts
pub mod Carried
pub mod Rotating
pub mod Stepping
pub mod Placing
pub mod Taking
pub mod Giving
pub mod Seating

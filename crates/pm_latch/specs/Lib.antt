pub mod Taking
pub mod Cancelling

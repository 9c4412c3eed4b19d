pub mod Listening
pub mod Noting
pub mod Reasons

pub mod Code
pub mod Port

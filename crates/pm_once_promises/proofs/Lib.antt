pub mod Blocks
pub mod Replying
pub mod Telling
pub mod Promising

pub mod Strings
pub mod Bodies
pub mod Packets

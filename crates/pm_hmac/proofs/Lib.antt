pub mod Bytes
pub mod HmacLaws

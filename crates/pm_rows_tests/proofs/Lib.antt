pub mod MemStores
pub mod Askings

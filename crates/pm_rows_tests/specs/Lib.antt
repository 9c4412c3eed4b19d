pub mod Asking
pub mod MemStore
pub mod MemStoreLaws

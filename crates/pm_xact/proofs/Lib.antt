pub mod Adding
pub mod Asking
pub mod Grammar
pub mod Lexing
pub mod Plain

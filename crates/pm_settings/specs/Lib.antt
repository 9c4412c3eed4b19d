pub mod Answers
pub mod Laws
pub mod Lexemes
pub mod Lexing
pub mod Names
pub mod Reading
pub mod Refused
pub mod Statements
pub mod Told
pub use Rattle.pm_sql.specs as pm_sql

pub mod LogLaws
pub mod PrintLaws

pub mod BookLaws
pub mod ChainedLaws
pub mod JournalLaws
pub mod OnceLaws
pub mod RunsLaws

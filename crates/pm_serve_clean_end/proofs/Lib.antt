pub mod BooksLaws
pub mod CleanEndLaws
pub mod EndsLaws
pub mod JournalLaws
pub mod MachineLaws
pub mod MovesLaws
pub mod RunsLaws

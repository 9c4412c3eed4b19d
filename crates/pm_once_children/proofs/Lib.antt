mod Closing
mod Lives
mod Reading
pub mod AuxiliariesLaws
pub mod AuxiliaryRunsLaws
pub mod CalmLaws
pub mod CausesLaws
pub mod EndsLaws
pub mod OutcomesLaws

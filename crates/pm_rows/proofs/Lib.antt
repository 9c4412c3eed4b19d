pub mod Entries
pub mod FoldLaws
pub mod NetChangesLaws
pub mod Room
pub mod Settle
pub mod Sizes
pub mod Tables
pub mod RowLaws

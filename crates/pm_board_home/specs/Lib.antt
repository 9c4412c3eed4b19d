pub mod Homes
pub mod Views
pub mod Nothing
pub mod NothingLaws

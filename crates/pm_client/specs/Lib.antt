pub mod Show
pub mod Sides
pub mod Talk
pub mod Hearing

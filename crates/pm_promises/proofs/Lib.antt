pub mod Wronging
pub mod StopsLaws

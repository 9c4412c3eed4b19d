pub mod Latest
pub mod CleanEnd
pub mod Seen
pub mod Among
pub mod WorkedCleanEnds

pub mod Crashes
pub mod WorkedCrashes

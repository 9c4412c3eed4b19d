pub mod Runs
pub mod Links
pub mod Crashes
pub mod Starts
pub mod Completes
pub mod PromisedServe

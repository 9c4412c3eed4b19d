pub mod Alone
pub mod Boards
pub mod Closed
pub mod Filling
pub mod Leaving
pub mod Left
pub mod Lists
pub mod Moments
pub mod Returning
pub mod Slots
pub mod Starting
pub use Rattle.pm_serve_crew.proofs as pm_serve_crew

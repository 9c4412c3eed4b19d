mod Appends
mod Begun
mod Changes
mod Checkpoints
mod Fronts
mod Halves
mod Inits
mod Lists
mod Looks
mod Makings
mod Moves
mod Spelled
mod Steps
mod Told
mod Wrote
pub mod BatchLaws

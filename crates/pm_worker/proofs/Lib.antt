mod Auxiliaries
mod Exits
mod Known
mod Loops
mod Sessions
mod Statuses

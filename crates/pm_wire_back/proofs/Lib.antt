mod Exact
mod Walks
mod Fields
mod Decimals
mod Digits
mod Bodies
mod Tags
mod TypeBytes
mod TagBytes
mod BackLaws
mod BackAgain
mod BackFaults
pub mod CountLaws

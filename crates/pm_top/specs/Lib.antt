pub mod Ends
pub mod Cluster
pub mod Control
pub mod Once
pub mod Load
pub mod Serve

pub mod Drive
pub mod GateChildren
pub mod LatchChildren
pub mod TwoCounters

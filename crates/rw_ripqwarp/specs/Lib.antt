pub mod Faults
pub mod Simulate
pub mod Headline

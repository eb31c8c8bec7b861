pub mod Onward
pub mod Counting
pub mod Ahead
pub mod Stopping
pub mod Taking

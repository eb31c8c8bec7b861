pub mod Failing
pub mod Stopping
pub mod Stepping

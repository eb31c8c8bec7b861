pub mod Committed
pub mod Until
pub mod Recorded
pub mod Laws

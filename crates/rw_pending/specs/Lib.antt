pub mod Later
pub mod Pending
pub mod Wheel

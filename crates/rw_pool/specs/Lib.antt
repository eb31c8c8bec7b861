pub mod Halts
pub mod Notes
pub mod Shares
pub mod Tasks
pub mod Sums

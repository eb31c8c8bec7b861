pub mod Statuses
pub mod Sweeps
pub mod Imports

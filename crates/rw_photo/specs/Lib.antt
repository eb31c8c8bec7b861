-- caches, and what happens to them
pub mod Limits
pub mod Ranges
pub mod Counts
pub mod Cache
pub mod Storing
pub mod Events
pub mod Simulation
pub mod Rows
-- what takes an event back
pub mod Undoing
-- for the contracts inside the crate
pub mod Deeds
-- the laws of the model, with their proofs
pub mod Lawful
pub mod Laws

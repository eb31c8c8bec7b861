-- words
pub mod Words
pub mod Limits
pub mod Work
-- the operations
pub mod Sealed
pub mod Put
pub mod Levels
pub mod Promote
pub mod Evict
pub mod Adjust
pub mod Insert
pub mod Purge
-- what they promise
pub mod Trail
pub mod Weight
pub mod Order
pub mod Laws
-- for the contracts inside the crate
pub mod Victim
pub mod Record

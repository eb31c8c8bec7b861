-- what the crate above cites
pub mod Laws
-- small things that all share
pub mod Basics
pub mod Cases
pub mod Places
pub mod Lookups
-- room for a size
pub mod Rooms
pub mod Fitting
pub mod Serials
-- where a block or a section is found
pub mod Standing
pub mod Found
pub mod Emptied
pub mod FromTail
-- why an eviction ends
pub mod Measures
pub mod Turns
pub mod Falls
pub mod Evictions
-- what an eviction does, row by row
pub mod Reputs
pub mod Folds
pub mod Backs
pub mod Ready
pub mod Walks
pub mod Loops
-- that counts and serials stay within 64 bits
pub mod Bounds
pub mod Headroom
-- what an insertion keeps
pub mod Adjusts
pub mod Sizes
pub mod Shapes
pub mod Devices
pub mod Used
pub mod Leaving
pub mod WellFormed
-- why sealed blocks keep their order, and rows leave from the tail
pub mod Lines
pub mod Behinds
pub mod Joins
pub mod Orders
pub mod Tails
-- what a promotion and a purge keep
pub mod Promotes
pub mod Abandoned
pub mod Purges
-- why a trail leads back, and why it is short
pub mod Trails
pub mod Records
pub mod Costs
pub mod Weights
-- what the code makes, as the definitions say it
pub mod Moves
pub mod Made
-- the worked examples
pub mod Examples

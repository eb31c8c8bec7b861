-- what public contracts say
pub mod Words
pub mod Limits
pub mod Rows
pub mod Index
pub mod Sections
pub mod Changes
pub mod State
pub mod Sums
pub mod Loose
pub mod Primitives
pub mod Undo
pub mod Questions
-- what the types inside the queue keep, and what is said between them: no public contract speaks of it
pub mod RowMap
-- what a list of objects that only grows says of a block
pub mod Covering
-- maps of blocks by their serials
pub mod Maps
-- the bytes and the lists of all blocks, and what lends an entry of them
pub mod Lists
pub mod Lending
-- what the index of the blocks says, and what is asked of a change so that it follows
pub mod Tags
-- the bytes of each section
pub mod Weights

-- what the crates above cite
pub mod Cited
-- rows: ordered maps; a map that is found by hash, as a list in order; the bytes of a block's rows
pub mod Entries
pub mod ByObject
pub mod Bytes
-- maps of blocks: an entry at a place
pub mod Maps
-- lists that cover blocks, and that the bytes and the lists of the blocks follow the rows
pub mod Covering
pub mod Follows
-- sections: which blocks one has after a change, that the index of the blocks follows, and the count of the device blocks
pub mod Holding
pub mod Tagged
pub mod Using
pub mod Devices
-- what an error meets
pub mod Errors
-- what a loose queue says of its blocks
pub mod Present
pub mod Serials
pub mod Fills
pub mod Greater
pub mod Sums
pub mod Starts
pub mod Tails
-- that each primitive leaves a loose queue
pub mod Kept
pub mod Grown
pub mod Moved
pub mod Parting
-- that a mark undoes its primitive
pub mod Laws
pub mod Undone
pub mod Moving
-- that the index follows: blocks by section, bytes, devices
pub mod Weighed

-- slots that are filled
pub mod Slots
-- the points of a grid
pub mod Widened
pub mod InRange
pub mod Fewest
-- what is said of a trace
pub mod Gathered
pub mod Traced
-- the lines of a configuration
pub mod Serial
pub mod ThreeLines
pub mod WholeLines
-- the table that they make
pub mod Taken
pub mod Tables
-- the parts of a sweep
pub mod Dealt
pub mod Joining
-- what is told under an outlook, and of a trace that is read as it is run
pub mod Told
pub mod Under
pub mod Plain
pub mod Ahead
pub mod Feeding
pub mod Finishing
pub mod Streamed
pub mod Cuts
pub mod Gaining
pub mod PartsRead
pub mod Fields
pub mod Refusing
pub mod Unique
-- a search for the flash that reaches a hit ratio
pub mod Halving

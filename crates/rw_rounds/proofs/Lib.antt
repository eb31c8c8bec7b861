-- what the crates above cite
pub mod Cited
-- a worker: lists by place, and what they weigh
mod ByPlace
mod Sums
-- one process of a worker, deed by deed
mod Governing
mod Keeping
mod Stepping
mod Moving
-- what all its processes keep, and what is next at them
mod Going
mod Winning
mod Looking
-- the parts of a turn, and how they add up
mod Fits
mod Passing
mod Taking
mod Dealt
mod Adding
-- why a turn comes to an end, and how a worker closes
mod Falling
mod Closing
-- that a worker may move to a thread
mod Sending
-- a round: lists, weights and least times
pub mod Walking
pub mod Totals
pub mod Least
-- the workers of a round, from their set-up to their turns' end
pub mod Gathered
pub mod Beginning
pub mod Working
pub mod Later
pub mod Ends
-- all workers together: a round keeps the parts whole
pub mod Joining
pub mod Rounding
-- that the floor is one
pub mod Outstanding
pub mod Onward
-- a segment of rounds
pub mod Underway
-- how a run ends, and why it stops
pub mod Ending
pub mod Stopping

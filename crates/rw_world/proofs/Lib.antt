-- lists with one element for each process, and letters on their way
pub mod Lookups
pub mod OnTheirWay
pub mod Sums
pub mod Starts
-- that a sound world is in time order
pub mod Exact
pub mod Outstanding
pub mod Outcomes
pub mod Growing
-- that each step keeps a world sound
pub mod Frame
pub mod Steps
pub mod Collecting
pub mod Refusals
pub mod Opened
pub mod Schedules
pub mod Rounds
-- from what a body did to the step that it made
pub mod Made
pub mod Undoing
pub mod Collects
pub mod Inboxes
pub mod Openings
pub mod Runs
pub mod Wholes
pub mod Kept
pub mod Exactly
-- the floor, found by loops
pub mod Floors
pub mod Quiet
-- what is left of a run where a world is taken apart
pub mod Leaving
pub mod Resting
pub mod Handing
-- the worked examples
mod Examples

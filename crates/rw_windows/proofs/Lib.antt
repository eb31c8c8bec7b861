-- lists, what they weigh, and ports
pub mod Lists
pub mod Sums
pub mod Ports
-- a worker, step by step
pub mod Fresh
pub mod Workers
pub mod Executing
pub mod Dealing
pub mod Batched
-- what workers tell and hear of one another
pub mod Saying
pub mod Telling
pub mod Hearing
-- what all leave at the end
pub mod Joined
pub mod Ended
-- that a worker's share may move to a thread
pub mod Moving

-- what the crates above cite
pub mod Cited
-- lists: their last elements, their order, and items taken out
pub mod Splits
mod Lasts
mod Orders
mod PutBack
mod Searching
-- records in runs, and what is taken back and committed of them
mod Filled
mod Chains
mod Pasts
pub mod Committing
-- what is held
pub mod Holding
mod HeldRuns
pub mod Plain
-- the balance of letters
mod Balance
pub mod GivenOut
-- the turn that a process takes, from what its body found
pub mod Turns
pub mod Bridges
mod Undoing
mod Arriving
mod Meeting
pub mod WithBags
mod LeastTimes
-- what stays for the process
mod Own

-- what the crates above cite
pub mod Cited
-- what a test of an order says, and a sort
mod Orderings
mod Sorts
mod Least
-- lists in order: where an element stands, comes and goes
mod Edits
mod Rising
mod Falling
-- bags by counts, and the three parts of a bag
mod Counting
mod Together

-- The laws of the definitions that crates above cite, from the files that prove them.
pub use Rattle.rw_bag.proofs.Orderings.{ge_back, not_gt_back}
pub use Rattle.rw_bag.proofs.Counting.{has_some, has_same}
pub use Rattle.rw_bag.proofs.Falling.{rises}
pub use Rattle.rw_bag.proofs.Least.{least_below, least_each, least_both}

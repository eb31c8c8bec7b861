-- The laws of the definitions that crates above cite, from the files that prove them.
pub use Rattle.rw_lp.proofs.Arriving.{open_accepts}
pub use Rattle.rw_lp.proofs.Committing.{collect_keeps, done_stays}
pub use Rattle.rw_lp.proofs.GivenOut.{kept_more, letters_join, no_letters}
pub use Rattle.rw_lp.proofs.Holding.{held_from}
pub use Rattle.rw_lp.proofs.LeastTimes.{processes_below}
pub use Rattle.rw_lp.proofs.Splits.{IsSplit, split_is}
pub use Rattle.rw_lp.proofs.Turns.{deliver_keeps, execute_keeps, undo_keeps, undo_lazily_keeps}
pub use Rattle.rw_lp.proofs.WithBags.{with_bags}

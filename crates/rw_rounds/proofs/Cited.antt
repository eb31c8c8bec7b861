-- The laws of the definitions that crates above cite, and that a worker may move to a thread of its
-- own, from the files that prove them.
pub use Rattle.rw_rounds.proofs.ByPlace.{at_place, get_within, place_of}
pub use Rattle.rw_rounds.proofs.Fits.{collected_of, there_is}
pub use Rattle.rw_rounds.proofs.Going.{Gone, Well, arrivals_more, did_gone, fair_letters, goes_gone, gone_more, gone_none, well_after}
pub use Rattle.rw_rounds.proofs.Governing.{Governs, StartsIn, governs}
pub use Rattle.rw_rounds.proofs.Keeping.{kept_of, undoings_keep}
pub use Rattle.rw_rounds.proofs.Sending.{worker_may_move}
pub use Rattle.rw_rounds.proofs.Stepping.{number_of}
pub use Rattle.rw_rounds.proofs.Sums.{every_append, every_back, every_front, every_zero, weigh-append, weigh_zero}

-- The laws of the definitions that crates above cite, from the files that prove them.
pub use Rattle.rw_pending.proofs.ByTime.{All-back, All-front}
pub use Rattle.rw_pending.proofs.Queue.{IsSorted-rest, copies-IsPermutation, sorted_first}
pub use Rattle.rw_pending.proofs.Waiting.{least_at, none_at, reached_at, taken_at}

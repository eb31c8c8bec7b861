-- The laws of the definitions that crates above cite, from the files that prove them.
pub use Rattle.rw_blocks.proofs.Errors.{at_some, when_none}
pub use Rattle.rw_blocks.proofs.Sums.{bytes_in-le-total}
pub use Rattle.rw_blocks.proofs.Serials.{kinds, serials-cons}
pub use Rattle.rw_blocks.proofs.Present.{has-times, times}
pub use Rattle.rw_blocks.proofs.Grown.{IsLoose-after_seal, at_block, bytes_held-blocks, bytes_held-nowhere, count-after_seal, count_in-cons, one, one-other}
pub use Rattle.rw_blocks.proofs.Kept.{IsLoose-after_add, IsLoose-after_rehome, IsLoose-after_remove, IsLoose-after_replace, bytes_held-is, of_row, weight}
pub use Rattle.rw_blocks.proofs.Moved.{IsLoose-after_merge, IsLoose-after_split, IsLoose-after_take_out, count-after_merge, count-after_split, count-after_take_out, one-kind}

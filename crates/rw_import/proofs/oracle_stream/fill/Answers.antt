-- More of a record is filled.
use Rattle.std.proofs.Common.{◌≡◌, ◌∙◌, ◌-◌, arith, drop, length, length-drop, take}
use Rattle.std.proofs.lemmas.List.{length-take-le}
use borrow.Rule.Slice.PartMut.{mid_of, same_len_mid}
use Rattle.rw_import.proofs.Pieces.{consumes-more, fill-more}
use Rattle.rw_import.proofs.oracle_stream.fill.Goals as goal

pub loop-filled-preserved : goal.loop-filled-preserved
loop-filled-preserved g c =
    let rem = g.R.Read.remaining in
    let f = c.loop-filled.filled in
    let piece = c.loop-filled.piece in
    let buf = c.read.new.buf in
    let n = c.in-Ok.read in
    let k = length piece - f in
    let inv = c.loop-filled.invariant in
    let mid : length buf ≡ length (mid_of f k piece) = c.read.auto.buf in
    let size : length (mid_of f k piece) ≡ k = length-take-le k (drop f piece) (omega (arith, length-drop f piece)) in
    let bound = c.in-Ok.ensures.bound in
    let bytes = c.in-Ok.ensures.bytes in
    record {
      within = omega (arith, same_len_mid f k piece buf mid, bound.0, size, mid, inv.within);
      bytes = rw (fill-more f k n piece buf inv.within (mid ∙ size) (omega (arith, bound.0, mid, size)))
          (consumes-more (rem c.args.reader.now) (rem c.loop-filled.reader) (rem c.read.new.self) (take f piece) (take n buf) inv.bytes bytes.0);
    }

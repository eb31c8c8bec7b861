-- One more record: the lesser of the least time so far and its own.
use Rattle.std.proofs.Common.{◌≡◌, ◌+◌, ℕ, None, Option, ap, arith, fold, map, sym, ◌∙◌}
use Rattle.std.specs.List.{range_with_len}
use Rattle.std.proofs.lemmas.List.FromFn.{map-range_with_len_more}
use Rattle.std.proofs.lemmas.List.Sums.{fold_push}
use Rattle.rw_import.specs.Log.{Saying, earlier}
use Rattle.rw_import.specs.Oracle.{piece_at, piece_said}
use Rattle.rw_import.proofs.oracle.least_time.Goals as goal

pub loop-at-preserved : goal.loop-at-preserved
loop-at-preserved c =
    let f = λ (n : ℕ). piece_said (piece_at c.args.bytes.now n) in
    let at = c.loop-at.at in
    let before = fold earlier None (map f (range_with_len 0 at)) in
    let more : fold earlier None (map f (range_with_len 0 (at + 1))) ≡ earlier before (f at) =
    ap (λ (xs : _). fold earlier None xs) (map-range_with_len_more f 0 at at (omega arith))
    ∙ fold_push earlier None (map f (range_with_len 0 at)) (f at) in
    let said : c.read_piece.result ≡ f at = c.read_piece.ensures.said ∙ ap piece_said c.piece.ensures in
    c.earlier_of-least.ensures
    ∙ ap (λ (m : Option ℕ). earlier m c.read_piece.result) c.loop-at.invariant
    ∙ ap (λ (s : Saying ℕ). earlier before s) said
    ∙ sym more

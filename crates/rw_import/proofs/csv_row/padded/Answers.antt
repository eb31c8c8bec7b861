-- The first nine of some digits and of enough zeros behind them.
use Rattle.std.proofs.Common.{◌≡◌, ◌+◌, ◌-◌, ◌∙◌, inl, inr, ℕ, List, ◌++◌, drop, length, min, take, refl, sym, ap, arith}
use Rattle.std.specs.Prelude.{replicate}
use Rattle.std.proofs.Math.Seq.{take-append-add, take-length}
use Rattle.std.proofs.lemmas.Bool.{cases_lt}
use Rattle.std.proofs.lemmas.List.{append-nil, drop-replicate, take-append-le, take-replicate}
use Rattle.rw_import.proofs.csv_row.padded.Goals as goal

-- the zeros behind n digits are as many as are missing of m
filled : (t : List ℕ) (n m x : ℕ) → n ≡ min (length t) m → take n t ++ drop n (replicate m x) ≡ take m (t ++ replicate m x)
filled t n m x e = elim (cases_lt (length t) m) [
  | inl few ↦
      let short : n ≡ length t = omega arith in
      let whole : length t + (m - length t) ≡ m = omega arith in
      let behind : take m (t ++ replicate m x) ≡ t ++ take (m - length t) (replicate m x) =
      ap (λ (k : ℕ). take k (t ++ replicate m x)) (sym whole) ∙ take-append-add t (replicate m x) (m - length t) in
      rw (short, take-length t, drop-replicate (length t) m x) (sym (behind ∙ ap (λ (zs : List ℕ). t ++ zs) (take-replicate (m - length t) m x (omega arith))))
  | inr many ↦
      let all : n ≡ m = omega arith in
      let none : m - m ≡ 0 = omega arith in
      rw (all, drop-replicate m m x, none, append-nil, take-append-le m t (replicate m x) many) refl
]

pub returns : goal.returns
returns c = rw c.copy_from_slice.ensures.after (filled c.args.text.now c.min-count.result 9 48 c.min-count.ensures)

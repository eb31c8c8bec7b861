-- Runs of values: one more run, the last one taken off, and the first ones dropped.
use Rattle.std.proofs.Common.{◌≡◌, ℕ, ◌+◌, ◌<◌, ◌≤◌, List, [], ◌∷◌, ◌++◌, length, drop, sym, ap, ◌∙◌, arith, append_assoc, append-nil, length-append, get_or, Option, Some, None}
use Rattle.std.specs.Option.{MatchOption, option_to_list}
use Rattle.std.proofs.lemmas.List.{drop-append-le}
use Rattle.std.proofs.Math.ListN.{set, length-drop}
use Rattle.std.proofs.Math.Seq.{drop-append-add}
use Rattle.std.specs.Global.{Vec}
use Rattle.rw_lp.specs.Limits.{longest_run}
use Rattle.rw_lp.specs.Runs.{values_of, AreFilled, IsWithinFront, IsLeftAfter}

module _ {T : Type 0} where
  pub filled_push : (runs : List (Vec T)) (run : Vec T) → AreFilled runs → 0 < length run.items → length run.items ≤ longest_run → AreFilled (runs ++ run ∷ [])
  filled_push [] run h some most = (some, most, tt)
  filled_push (r ∷ rs) run h some most = (h.0, h.1, filled_push rs run h.2 some most)

  pub filled_last : (runs : List (Vec T)) (run : Vec T) → AreFilled (runs ++ run ∷ []) → AreFilled runs × (0 < length run.items) × (length run.items ≤ longest_run)
  filled_last [] run h = (tt, h.0, h.1)
  filled_last (r ∷ rs) run h = let k = filled_last rs run h.2 in ((h.0, h.1, k.0), k.1, k.2)

  pub values_push : (runs : List (Vec T)) (run : Vec T) → values_of (runs ++ run ∷ []) ≡ values_of runs ++ run.items
  values_push [] run = append-nil run.items
  values_push (r ∷ rs) run = ap (λ l. r.items ++ l) (values_push rs run) ∙ sym (append_assoc r.items (values_of rs) run.items)

  pub left_less : (n m k : ℕ) (old runs : List (Vec T)) (run : Vec T) → IsLeftAfter n old m (run ∷ runs) → k + length run.items ≡ m → IsLeftAfter n old k runs
  left_less n m k old runs run h is = record {
    count = let c = h.count in let both = length-append run.items (values_of runs) in omega arith;
    rest = λ behind.
        h.rest behind ∙ ap (drop m) (append_assoc run.items (values_of runs) behind)
        ∙ ap (λ j. drop j (run.items ++ (values_of runs ++ behind))) (let j : m ≡ length run.items + k = omega arith in j)
        ∙ drop-append-add run.items (values_of runs ++ behind) k;
  }

  -- the first of some
  pub front_is : (runs : List (Vec T)) (run : Vec T) → 0 < length runs → run ≡ get_or runs 0 run → runs ≡ run ∷ drop 1 runs
  front_is [] run some is = absurd (omega arith)
  front_is (r ∷ rs) run some is = ap (λ (v : Vec T). v ∷ rs) (sym is)

  -- what a pop from the last of some runs is to all values
  pub pop_is : (r : Option T) (m n : ℕ) (old new before all : List T) → MatchOption r ((n ≡ 0) × (m ≡ 0)) (λ _. m + 1 ≡ n) → 0 < n → old ≡ new ++ option_to_list r → all ≡ before ++ old
      → MatchOption r ((all ≡ []) × (before ++ new ≡ [])) (λ v. all ≡ (before ++ new) ++ v ∷ [])
  pop_is None m n old new before all cases some is joined = absurd (let none = cases.0 in omega arith)
  pop_is (Some v) m n old new before all cases some is joined = joined ∙ ap (λ l. before ++ l) is ∙ sym (append_assoc before new (v ∷ []))

  -- the first of some runs without its first m values
  pub dropped_front : (n m : ℕ) (old runs : List (Vec T)) (run less : Vec T) → 0 < length runs → run ≡ get_or runs 0 run → AreFilled runs → IsWithinFront m runs → IsLeftAfter n old m runs → less.items ≡ drop m run.items
      → AreFilled (set runs 0 less) × ((behind : List T) → values_of (set runs 0 less) ++ behind ≡ drop n (values_of old ++ behind))
  dropped_front n m old [] run less some is filled front left gone = absurd (omega arith)
  dropped_front n m old (r ∷ rs) run less some is filled front left gone =
      let now : less.items ≡ drop m r.items = gone ∙ ap (λ (v : Vec T). drop m v.items) is in
      let size : length less.items ≡ length (drop m r.items) = ap length now in
      let short = length-drop m r.items in
      let most : length r.items ≤ longest_run = filled.1 in (
        (omega arith, omega arith, filled.2),
        λ behind.
            ap (λ l. (l ++ values_of rs) ++ behind) now
            ∙ append_assoc (drop m r.items) (values_of rs) behind
            ∙ sym (drop-append-le m r.items (values_of rs ++ behind) (omega arith))
            ∙ ap (drop m) (sym (append_assoc r.items (values_of rs) behind))
            ∙ sym (left.rest behind),
      )

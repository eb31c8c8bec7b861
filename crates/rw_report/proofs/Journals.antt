-- A journal line by line.
use Rattle.std.proofs.Common.{◌≡◌, ℕ, zero, suc, ◌+◌, ◌<◌, List, [], ◌∷◌, ◌++◌, sym, ◌∙◌, ap, arith, map, take, get_or, length, add-zero, append_assoc, append-nil}
use Rattle.rw_vt.specs.System.{flatten, map_from}
use Rattle.rw_lp.specs.Process.{ProcessState}
use Rattle.rw_photo.specs.declared.body.Body.{Body}
use Rattle.rw_photo.specs.Cache.{Cache}
use Rattle.rw_world.specs.Sound.{committed_of}
use Rattle.rw_report.specs.Journal.{event_lines}

module _ {A : Type 0} where
  -- the lines of one element more
  pub lines-more : (f : A → List ℕ) (n : ℕ) (xs : List A) (d : A) → n < length xs → flatten (map f (take (suc n) xs)) ≡ flatten (map f (take n xs)) ++ f (get_or xs n d)
  lines-more f n [] d l = absurd (omega arith)
  lines-more f zero (x ∷ xs) d l = append-nil (f x)
  lines-more f (suc n) (x ∷ xs) d l =
      ap (λ rest. f x ++ rest) (lines-more f n xs d (omega arith)) ∙ sym (append_assoc (f x) (flatten (map f (take n xs))) (f (get_or xs n d)))

  -- the lines of one numbered element more
  pub numbered-more : (f : ℕ → A → List ℕ) (k n : ℕ) (xs : List A) (d : A) → n < length xs
      → flatten (map_from k f (take (suc n) xs)) ≡ flatten (map_from k f (take n xs)) ++ f (k + n) (get_or xs n d)
  numbered-more f k n [] d l = absurd (omega arith)
  numbered-more f k zero (x ∷ xs) d l = rw add-zero (append-nil (f k x))
  numbered-more f k (suc n) (x ∷ xs) d l =
      let next : (k + 1) + n ≡ k + suc n = omega arith in
      ap (λ rest. f k x ++ rest) (numbered-more f (k + 1) n xs d (omega arith) ∙ ap (λ q. flatten (map_from (k + 1) f (take n xs)) ++ f q (get_or xs n d)) next)
      ∙ sym (append_assoc (f k x) (flatten (map_from (k + 1) f (take n xs))) (f (k + suc n) (get_or xs n d)))

-- what the processes have committed, the first having this number
abbrev pub process_lines : ℕ → List (ProcessState Cache Body) → List ℕ
process_lines k ps = flatten (map_from k (λ p x. event_lines p x.committed) ps)

-- the lines of one process more
pub processes-more : (k n : ℕ) (ps : List (ProcessState Cache Body)) → n < length ps
    → process_lines k (take (suc n) ps) ≡ process_lines k (take n ps) ++ event_lines (k + n) (committed_of ps n)
processes-more k n [] l = absurd (omega arith)
processes-more k zero (x ∷ ps) l = rw add-zero (append-nil (event_lines k x.committed))
processes-more k (suc n) (x ∷ ps) l =
    let next : (k + 1) + n ≡ k + suc n = omega arith in
    ap (λ rest. event_lines k x.committed ++ rest) (processes-more (k + 1) n ps (omega arith) ∙ ap (λ q. process_lines (k + 1) (take n ps) ++ event_lines q (committed_of ps n)) next)
    ∙ sym (append_assoc (event_lines k x.committed) (process_lines (k + 1) (take n ps)) (event_lines (k + suc n) (committed_of ps n)))

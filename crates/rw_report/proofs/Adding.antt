-- What is counted in the intervals of a run adds up to what is counted from the first moment to the last.
use Rattle.std.proofs.Common.{◌≡◌, ℕ, ◌%◌, ◌^◌, ◌<◌, List, [], ◌∷◌, refl, ◌∙◌, arith}
use Rattle.std.specs.Prelude.{fold}
use Rattle.rw_photo.specs.declared.config.Config.{Config}
use Rattle.rw_photo.specs.declared.counters.Counters.{Counters}
use Rattle.rw_photo.specs.Counts.{counters_by, minus, no_counts, plus, sum_of}
use Rattle.rw_report.specs.declared.columns.Caches.{Caches}
use Rattle.rw_report.specs.declared.moments.Moment.{Moment}
use Rattle.rw_report.specs.Columns.{those_of}
use Rattle.rw_report.specs.Intervals.{AddUp, counted_between, intervals_from, last_moment}
use Rattle.rw_report.specs.Report.{total_of}

below : (n : ℕ) → n % 2 ^ 64 < 2 ^ 64
below n = omega arith

-- three counts below 2 ^ 64, of which each next one is what the one before it has become
next_one : (acc a b c : ℕ) → a < 2 ^ 64 → b < 2 ^ 64 → c < 2 ^ 64 → plus (plus acc (minus b a)) (minus c b) ≡ plus acc (minus c a)
next_one acc a b c la lb lc = omega (arith, la, lb, lc)

none_more : (acc a : ℕ) → acc < 2 ^ 64 → a < 2 ^ 64 → acc ≡ plus acc (minus a a)
none_more acc a l la = omega (arith, l, la)

from_none : (a b : ℕ) → plus 0 (minus b a) ≡ minus b a
from_none a b = omega arith

module _ (c : Config) (caches : Caches) where
  abbrev chain : (Counters → ℕ) → ℕ → Moment → List Moment → ℕ
  chain which acc a [] = acc
  chain which acc a (b ∷ ms) = chain which (plus acc (minus (total_of which (those_of c caches b.counters.items)) (total_of which (those_of c caches a.counters.items)))) b ms

  one_by_one : (acc : Counters) (a : Moment) (ms : List Moment) → fold sum_of acc (intervals_from c caches a ms) ≡ counters_by (λ which. chain which (which acc) a ms)
  one_by_one acc a [] = refl
  one_by_one acc a (b ∷ ms) = one_by_one (sum_of acc (counted_between c caches a b)) b ms

  chain_is : (which : Counters → ℕ) (acc : ℕ) (a : Moment) (ms : List Moment) → acc < 2 ^ 64
      → chain which acc a ms ≡ plus acc (minus (total_of which (those_of c caches (last_moment a ms).counters.items)) (total_of which (those_of c caches a.counters.items)))
  chain_is which acc a [] l = none_more acc (total_of which (those_of c caches a.counters.items)) l (below _)
  chain_is which acc a (b ∷ ms) l =
      chain_is which (plus acc (minus (total_of which (those_of c caches b.counters.items)) (total_of which (those_of c caches a.counters.items)))) b ms (below _)
      ∙ next_one acc (total_of which (those_of c caches a.counters.items)) (total_of which (those_of c caches b.counters.items)) (total_of which (those_of c caches (last_moment b ms).counters.items)) (below _) (below _) (below _)

  whole : (which : Counters → ℕ) (a : Moment) (ms : List Moment)
      → chain which 0 a ms ≡ minus (total_of which (those_of c caches (last_moment a ms).counters.items)) (total_of which (those_of c caches a.counters.items))
  whole which a ms =
      chain_is which 0 a ms (omega arith)
      ∙ from_none (total_of which (those_of c caches a.counters.items)) (total_of which (those_of c caches (last_moment a ms).counters.items))

pub add_up : (c : Config) (ms : List Moment) → AddUp c ms
add_up c [] = tt
add_up c (a ∷ ms) = λ caches. one_by_one c caches no_counts a ms ∙ (λ i. counters_by (λ which. whole c caches which a ms i))

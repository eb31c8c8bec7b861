-- The sections that an operation looks for are there.
use Rattle.std.proofs.Common.{◌≡◌, ℕ, ◌+◌, ◌-◌, ◌≤◌, ◌<◌, List, [], ◌∷◌, refl, arith, Bool, length, get_or, suc}
use Rattle.std.specs.Prelude.{Option, Some, None, nat_le, find, reverse, unwrap_or}
use Rattle.std.specs.List.{range_with_len}
use Rattle.std.proofs.lemmas.List.{get_or-reverse, length-reverse}
use Rattle.std.proofs.lemmas.List.FromFn.{length-range_with_len, get_or-range_with_len}
use Rattle.rw_blocks.specs.State.{QueueState}
use Rattle.rw_blocks.specs.Sums.{bytes_below}
use Rattle.rw_ripq.proofs.Basics.{by_bool, none_some, some_is}
use Rattle.rw_ripq.specs.Adjust.{heavy_section, is_heavy, is_light, light_pair}
use Rattle.rw_ripq.specs.Levels.{from_tail, reaches, target}
use Rattle.rw_ripq.specs.declared.Policy.{Policy}
use Rattle.rw_ripq.specs.declared.Policy.TheVariants.{Lru, Off, Slru}

-- what is found is in the list
found : (p : ℕ → Bool) (xs : List ℕ) (x : ℕ) → find p xs ≡ Some x → (i : ℕ) × (i < length xs) × (get_or xs i 0 ≡ x)
found p [] x is = absurd (none_some is)
found p (y ∷ ys) x is =
    by_bool (p y)
    (λ h. (0, omega arith, some_is (rw h at is)))
    (λ h. let r = found p ys x (rw h at is) in (suc r.0, omega (arith, r.1), r.2))

found-range : (p : ℕ → Bool) (n x : ℕ) → find p (range_with_len 0 n) ≡ Some x → x < n
found-range p n x is =
    let r = found p (range_with_len 0 n) x is in
    let long : length (range_with_len 0 n) ≡ n = length-range_with_len 0 n in
    omega (arith, r.1, r.2, long, get_or-range_with_len 0 n r.0 0 (omega (arith, r.1, long)))

found-from_tail : (p : ℕ → Bool) (n x : ℕ) → find p (reverse (range_with_len 0 n)) ≡ Some x → x < n
found-from_tail p n x is =
    let r = found p (reverse (range_with_len 0 n)) x is in
    let long : length (range_with_len 0 n) ≡ n = length-range_with_len 0 n in
    let as_long : length (reverse (range_with_len 0 n)) ≡ length (range_with_len 0 n) = length-reverse (range_with_len 0 n) in
    let k : ℕ = length (range_with_len 0 n) - 1 - r.0 in
    omega (arith, r.1, r.2, long, as_long, get_or-reverse (range_with_len 0 n) r.0 0 (omega (arith, r.1, as_long)), get_or-range_with_len 0 n k 0 (omega (arith, r.1, as_long, long)))

pub light_pair-there : (q : QueueState) (i : ℕ) → light_pair q ≡ Some i → i + 1 < length q.sections
light_pair-there q i is = omega (arith, found-range (is_light q) (length q.sections - 1) i is)

pub heavy_section-there : (q : QueueState) (i : ℕ) → heavy_section q ≡ Some i → i < length q.sections
heavy_section-there q i is = found-range (is_heavy q) (length q.sections) i is

or_head : (r : Option ℕ) (n : ℕ) → 1 ≤ n → ((x : ℕ) → r ≡ Some x → x < n) → unwrap_or r 0 < n
or_head None n some bytes_below = omega arith
or_head (Some x) n some bytes_below = bytes_below x refl

pub target-there : (p : Policy) (q : QueueState) (l : ℕ) → 1 ≤ length q.sections → target p q l < length q.sections
target-there Off q l some = some
target-there Lru q l some = some
target-there (Slru levels) q l some =
    by_bool (nat_le levels.segments l)
    (λ h. rw h some)
    (λ h. rw h (or_head (find (reaches levels q l) (from_tail q)) (length q.sections) some (found-from_tail (reaches levels q l) (length q.sections))))

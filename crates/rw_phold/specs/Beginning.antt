-- What a run of PHOLD begins with, and that a run may begin so.
use Rattle.std.specs.Prelude.{◌≡◌, ◌<◌, ◌≤◌, ◌+◌, ◌/◌, ◌%◌, ◌^◌, ℕ, true, List, map, length, All, slice_get, slice_index_or, Some}
use Rattle.std.specs.Fn.{iterate}
use Rattle.std.specs.Int.Bits.{bit_xor}
use Rattle.std.specs.List.{range_with_len}
use Rattle.std.proofs.Common.{arith, subst, sym, ◌∙◌}
use Rattle.std.proofs.lemmas.Bool.Decides.{nat_tests}
use Rattle.std.proofs.lemmas.List.FromFn.{get_or-map-range_with_len, length-map-range_with_len}
use Rattle.std.proofs.lemmas.Option.{get_or_from_slice_get, slice_get_within}
use Rattle.rw_vt.specs.Words.{Count, Process}
use Rattle.rw_vt.specs.declared.event.Event.{Event}
use Rattle.rw_phold.specs.declared.phold.Phold.{Phold}
use Rattle.rw_phold.specs.declared.phold.Holder.{Holder}
use Rattle.rw_phold.specs.declared.phold.Ball.{Ball}
use Rattle.rw_phold.specs.Draws.{drawn, drawn_fits}
use Rattle.rw_phold.specs.Balls.{IsHolder, is_sound_ball}

-- process p as it starts: what it draws comes from the seed and its number
abbrev pub first_holder : ℕ → Process → Holder
first_holder seed p = record {
  random = drawn (drawn (bit_xor seed p));
  sum = 0;
  sends = 0;
  events = 0;
}

-- each process as it starts
abbrev pub first_holders : Phold → ℕ → List Holder
first_holders m seed = map (first_holder seed) (range_with_len 0 m.processes)

-- ball n as it first comes, to the processes in turn, at a time that is drawn from the seed
abbrev pub first_ball : Phold → ℕ → ℕ → Event Ball
first_ball m seed n = record {
  time = iterate drawn (n + 1) seed / 2 ^ 32 % m.spread;
  source = 0;
  number = n;
  to = n % m.processes;
  body = record { number = n };
}

-- so many balls as they first come
abbrev pub first_balls : Phold → Count → ℕ → List (Event Ball)
first_balls m population seed = map (first_ball m seed) (range_with_len 0 population)

-- element k of the values of f at 0 to n - 1
at : {X : Type 0} (f : ℕ → X) (n k : ℕ) (d : X) → k < length (map f (range_with_len 0 n))
    → (k < n) × (f k ≡ slice_index_or (map f (range_with_len 0 n)) k d)
at f n k d there =
    let within : k < n = subst (λ l. k < l) (length-map-range_with_len f 0 n) there in
    (within, sym (get_or-map-range_with_len f 0 n k k d within (omega arith)))

-- each start is one that a process may be in
pub holders_may_start : (m : Phold) (seed p : ℕ) (s : Holder)
    → slice_get (first_holders m seed) p ≡ Some s → IsHolder s
holders_may_start m seed p s h =
    let there = slice_get_within (first_holders m seed) p s h in
    let is = (at (first_holder seed) m.processes p s there).1 in
    subst IsHolder (is ∙ get_or_from_slice_get (first_holders m seed) p s s h)
    (record {
      random = drawn_fits (drawn (bit_xor seed p));
      sum = omega arith;
      sends = omega arith;
      events = omega arith;
    })

-- each ball may be handed to the process to which it first comes
pub first_balls_are_sound : (m : Phold) (population seed : ℕ) → population < 2 ^ 32
    → All (λ e. is_sound_ball m e ≡ true) (first_balls m population seed)
first_balls_are_sound m population seed few k d there =
    let is = at (first_ball m seed) population k d there in
    subst (λ e. is_sound_ball m e ≡ true) is.1 (sound is.0)
  where
    rest : (n k : ℕ) → 1 ≤ k → n % k < k
    rest n k some = omega arith

    sound : k < population → is_sound_ball m (first_ball m seed k) ≡ true
    sound first =
        let time = rest (iterate drawn (k + 1) seed / 2 ^ 32) m.spread m.some_spread in
        let to = rest k m.processes m.some_processes in
        grind (arith, nat_tests, time, to, few, first, m.few_spread)

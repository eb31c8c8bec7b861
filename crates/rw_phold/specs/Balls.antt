-- Balls among processes: which events may come, what each does, and the laws of that.
use Rattle.std.specs.Prelude.{◌≡◌, ◌≤◌, ◌<◌, ◌+◌, ◌/◌, ◌%◌, ◌^◌, ℕ, Bool, true, false, List, [], ◌∷◌, nat_lt, nat_le, ◌&&◌, cond, All, refl, if◌then◌else◌}
use Rattle.std.specs.declared.cmp.Ordering.TheVariants.{Equal}
use Rattle.std.specs.Fn.{iterate}
use Rattle.std.specs.Ordering.{nat_cmp}
use Rattle.std.proofs.Common.{arith, ap}
use Rattle.std.proofs.lemmas.Bool.Decides.{nat_tests}
use Rattle.std.proofs.lemmas.List.Elements.{All-cons, All-nil}
use Rattle.std.proofs.lemmas.Cmp.{ranked, by_ranked}
use Rattle.rw_vt.specs.Words.{Process, Time}
use Rattle.rw_vt.specs.Limits.{end_of_time}
use Rattle.rw_vt.specs.declared.event.Event.{Event}
use Rattle.rw_vt.specs.Valid.{IsInRange, IsSentBy}
use Rattle.rw_phold.specs.declared.phold.Phold.{Phold}
use Rattle.rw_phold.specs.declared.phold.Holder.{Holder}
use Rattle.rw_phold.specs.declared.phold.Ball.{Ball}
use Rattle.rw_phold.specs.declared.phold.Passed.{Passed}
use Rattle.rw_phold.specs.Draws.{drawn, drawn_fits, draws_fit}

-- an event that may be handed to its process
abbrev pub is_sound_ball : Phold → Event Ball → Bool
is_sound_ball m e =
    nat_lt e.time end_of_time && nat_le e.source m.processes && nat_lt e.number (2 ^ 64)
    && nat_lt e.to m.processes && nat_lt e.body.number (2 ^ 32)

-- what a process keeps is in the ranges of its types
pub record IsHolder (s : Holder) : Type 0 where
  pub random : s.random < 2 ^ 64
  pub sum : s.sum < 2 ^ 64
  pub sends : s.sends < 2 ^ 64
  pub events : s.events < 2 ^ 64

-- what is drawn for an event: for how long its ball is held, and where it goes
abbrev pub first_draw : Holder → ℕ
first_draw s = drawn s.random

abbrev pub second_draw : Holder → ℕ
second_draw s = drawn (first_draw s)

-- for how long a ball is held beyond the lookahead by what is drawn: not at all, or for a drawn time
abbrev pub hold_by : Phold → ℕ → Time
hold_by m draw = if nat_lt (draw / 2 ^ 16 % 2 ^ 16) m.short then 0 else draw / 2 ^ 32 % m.spread

-- when the ball comes again
abbrev pub next_time : Phold → Holder → Event Ball → Time
next_time m s e = e.time + m.lookahead + hold_by m (first_draw s)

-- whether it does, before the end of the run
abbrev pub comes_again : Phold → Holder → Event Ball → Bool
comes_again m s e = nat_lt (next_time m s e) m.until

-- where a ball of process p goes by what is drawn: to one of all processes, or it stays
abbrev pub place_by : Phold → Process → ℕ → Process
place_by m p draw = if nat_lt (draw / 2 ^ 48) m.remote then draw / 2 ^ 16 % m.processes else p

-- where it comes
abbrev pub next_process : Phold → Process → Holder → Process
next_process m p s = place_by m p (second_draw s)

abbrev pub next_ball : Phold → Process → Holder → Event Ball → Event Ball
next_ball m p s e = record {
  time = next_time m s e;
  source = p + 1;
  number = s.sends;
  to = next_process m p s;
  body = e.body;
}

abbrev pub holder_after : Phold → Holder → Event Ball → Holder
holder_after m s e = record {
  random = second_draw s;
  sum = iterate drawn m.work (drawn ((s.sum + e.time) % 2 ^ 64));
  sends = if comes_again m s e then (s.sends + 1) % 2 ^ 64 else s.sends;
  events = (s.events + 1) % 2 ^ 64;
}

abbrev pub phold_step : Phold → Process → Holder → Event Ball → Holder × List (Event Ball)
phold_step m p s e =
    (holder_after m s e, if comes_again m s e then next_ball m p s e ∷ [] else [])

-- the record links the process before, the event and the process after
pub record IsPassed (m : Phold) (p : Process) (before : Holder) (e : Event Ball) (u : Passed)
    (later : Holder) : Type 0 where
  pub passed : u.0 ≡ comes_again m before e
  pub is : later ≡ holder_after m before e

pub phold_ranges : (m : Phold) (e : Event Ball) → is_sound_ball m e ≡ true → IsInRange m.processes e
phold_ranges m e h =
    record {
      time = grind (arith, nat_tests);
      source = grind (arith, nat_tests, m.few_processes);
      number = grind (arith, nat_tests);
      to = grind (arith, nat_tests);
    }

pub phold_keeps : (m : Phold) (p : Process) (s : Holder) (e : Event Ball) → IsHolder s
    → is_sound_ball m e ≡ true → e.to ≡ p → IsHolder (phold_step m p s e).0
phold_keeps m p s e w h t =
    record {
      random = drawn_fits (first_draw s);
      sum = fits ((s.sum + e.time) % 2 ^ 64);
      sends = kept (comes_again m s e) s.sends w.sends;
      events = below (s.events + 1);
    }
  where
    below : (n : ℕ) → n % 2 ^ 64 < 2 ^ 64
    below n = omega arith

    fits : (x : ℕ) → iterate drawn m.work (drawn x) < 2 ^ 64
    fits x = draws_fit m.work (drawn x) (drawn_fits x)

    kept : (b : Bool) (n : ℕ) → n < 2 ^ 64 → cond b ((n + 1) % 2 ^ 64) n < 2 ^ 64
    kept true n l = below (n + 1)
    kept false n l = l

-- the process to which a ball goes is one of those there are
process-there : (m : Phold) (p : Process) (s : Holder) → p < m.processes
    → next_process m p s < m.processes
process-there m p s h = by (nat_lt (second_draw s / 2 ^ 48) m.remote)
  where
    rest : (n k : ℕ) → 1 ≤ k → n % k < k
    rest n k some = omega arith

    by : (b : Bool) → cond b (second_draw s / 2 ^ 16 % m.processes) p < m.processes
    by true = rest (second_draw s / 2 ^ 16) m.processes m.some_processes
    by false = h

-- what is said of a ball that goes on
sent_well : (m : Phold) (p : Process) (s : Holder) (e : Event Ball) → IsHolder s
    → is_sound_ball m e ≡ true → e.to ≡ p → comes_again m s e ≡ true
    → IsSentBy p e (next_ball m p s e) × (is_sound_ball m (next_ball m p s e) ≡ true)
sent_well m p s e w h t g =
    let here : p < m.processes = grind (arith, nat_tests) in
    let there = process-there m p s here in (
      record { source = refl; later = later (hold_by m (first_draw s)) },
      sound (next_time m s e) (next_process m p s) g there,
    )
  where
    later : (k : ℕ) → e.time < e.time + m.lookahead + k
    later k = omega (arith, m.some_lookahead)

    sound : (time to : ℕ) → nat_lt time m.until ≡ true → to < m.processes
        → is_sound_ball m
        (record { time = time; source = p + 1; number = s.sends; to = to; body = e.body })
        ≡ true
    sound time to g there = grind (arith, nat_tests, w.sends, m.before_end)

pub phold_future : (m : Phold) (p : Process) (s : Holder) (e : Event Ball) → IsHolder s
    → is_sound_ball m e ≡ true → e.to ≡ p
    → All (λ f. IsSentBy p e f × (is_sound_ball m f ≡ true)) (phold_step m p s e).1
phold_future m p s e w h t = by (comes_again m s e) refl
  where
    by : (b : Bool) → comes_again m s e ≡ b
        → All (λ f. IsSentBy p e f × (is_sound_ball m f ≡ true))
        (cond b (next_ball m p s e ∷ []) [])
    by true g = All-cons (λ f. IsSentBy p e f × (is_sound_ball m f ≡ true)) (next_ball m p s e) []
        (sent_well m p s e w h t g) (All-nil (λ f. IsSentBy p e f × (is_sound_ball m f ≡ true)))
    by false g = All-nil (λ f. IsSentBy p e f × (is_sound_ball m f ≡ true))

-- and it comes as far ahead as is asked
pub phold_ahead : (m : Phold) (p : Process) (s : Holder) (e : Event Ball) → IsHolder s
    → is_sound_ball m e ≡ true → e.to ≡ p
    → All (λ f. e.time + m.lookahead ≤ f.time) (phold_step m p s e).1
phold_ahead m p s e w h t = by (comes_again m s e)
  where
    later : (k : ℕ) → e.time + m.lookahead ≤ e.time + m.lookahead + k
    later k = omega arith

    by : (b : Bool)
        → All (λ f. e.time + m.lookahead ≤ f.time) (cond b (next_ball m p s e ∷ []) [])
    by true = All-cons (λ f. e.time + m.lookahead ≤ f.time) (next_ball m p s e) []
        (later (hold_by m (first_draw s)))
        (All-nil (λ (f : Event Ball). e.time + m.lookahead ≤ f.time))
    by false = All-nil (λ (f : Event Ball). e.time + m.lookahead ≤ f.time)

-- numbers that compare as equal are the same
nat_cmp_same : (m n : ℕ) → nat_cmp m n ≡ Equal → m ≡ n
nat_cmp_same m n h =
    by_ranked (m < n) (m ≡ n) (n < m) (nat_cmp m n) (ranked m n (nat_cmp m n) refl) (λ e _. cc)
    (λ _ same. same) (λ e _. cc)

pub ball_same : (a b : Ball) → nat_cmp a.number b.number ≡ Equal → a ≡ b
ball_same a b h =
    let same : a.number ≡ b.number = nat_cmp_same a.number b.number h in
    ap (λ n. let r : Ball = record { number = n } in r) same

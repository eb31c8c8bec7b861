-- The least time of processes, and the least of times noted: nothing pending or owed there, and no note, is before it.
use Rattle.std.proofs.Common.{◌≡◌, ℕ, zero, suc, ◌^◌, ◌<◌, ◌≤◌, List, [], ◌∷◌, map, sym, subst, arith, inl, inr}
use Rattle.std.specs.Prelude.{◌⊎◌}
use Rattle.std.proofs.lemmas.Bool.{cases_eq}
use Rattle.std.specs.declared.cmp.Ordering.{Ordering}
use Rattle.rw_vt.specs.declared.event.Event.{Event}
use Rattle.rw_vt.specs.Order.{Each}
use Rattle.rw_vt.proofs.Sorting.{IsExactOrder}
use Rattle.rw_vt.proofs.Bags.{Each-cons}
use Rattle.rw_lp.specs.HeldMessages.{held_messages}
use Rattle.rw_lp.specs.Process.{ProcessState}
use Rattle.rw_bag.specs.Bags.{least_time}
use Rattle.rw_lp.specs.Calls.{LogicalProcess, least_of_processes}
use Rattle.rw_board.specs.Least as board
use Rattle.rw_board.specs.Seats.{SeatState}
use Rattle.rw_rounds.specs.Bags.{Every}
use Rattle.rw_rounds.specs.Rounds.{noted_below}
use Rattle.rw_rounds.specs.Working.{NoneBefore}
use Rattle.rw_rounds.proofs.Cited.{every_append, every_back, every_front}

module _ {B : Type 0} {cmp : Event B → Event B → Ordering} (o : IsExactOrder cmp) (t : ℕ) where
  within_least : (m : ℕ) (xs : List (Event B)) → t ≤ least_time m xs → (t ≤ m) × Each cmp (λ e. t ≤ e.time) xs
  within_least m [] h = (h, λ e k. absurd (omega arith))
  within_least m (x ∷ xs) h =
      let rest : (t ≤ m) × Each cmp (λ e. t ≤ e.time) xs = within_least m xs (omega arith) in
      (rest.0, Each-cons o (λ e. t ≤ e.time) x xs (omega arith) rest.1)

  module _ {M S : Type 0} where
    first_too : (events_of : ProcessState S B → List (Event B)) (x : LogicalProcess M S B) (ls : List (LogicalProcess M S B)) → Each cmp (λ e. t ≤ e.time) (events_of x.process) → NoneBefore cmp events_of t ls → NoneBefore cmp events_of t (x ∷ ls)
    first_too events_of x ls here there zero l at = let is : x ≡ l = cc in subst (λ u. Each cmp (λ e. t ≤ e.time) (events_of u.process)) is here
    first_too events_of x ls here there (suc place) l at = there place l at

    pub none_before : (m : ℕ) (ls : List (LogicalProcess M S B)) → t ≤ least_of_processes m (map (λ l. l.process) ls) → NoneBefore cmp (λ x. x.pending) t ls × NoneBefore cmp (λ x. x.debts) t ls
    none_before m [] h = ((λ place l at. cc), λ place l at. cc)
    none_before m (x ∷ ls) h =
        let p = x.process in
        let held = held_messages p.held in
        let rest = least_of_processes m (map (λ l. l.process) ls) in
        let pending : (t ≤ least_time (least_time rest held) p.debts) × Each cmp (λ e. t ≤ e.time) p.pending = within_least (least_time (least_time rest held) p.debts) p.pending h in
        let debts : (t ≤ least_time rest held) × Each cmp (λ e. t ≤ e.time) p.debts = within_least (least_time rest held) p.debts pending.0 in
        let others = none_before m ls (within_least rest held debts.0).0 in
        (first_too (λ x. x.pending) x ls pending.1 others.0, first_too (λ x. x.debts) x ls debts.1 others.1)

-- no note is before the least of all, which is not after the end
pub least_end : (ts : List ℕ) → board.least ts ≤ 2 ^ 40
least_end [] = omega arith
least_end (t ∷ ts) = omega (arith, least_end ts)

pub every_from_least : (l : ℕ) (ts : List ℕ) → l ≤ board.least ts → Every (λ t. l ≤ t) ts
every_from_least l [] h = tt
every_from_least l (t ∷ ts) h = (omega arith, every_from_least l ts (omega arith))

-- so many notes, or the end, are not before f, so the least of them is not
pub least_from : (f : ℕ) (ts : List ℕ) → f ≤ 2 ^ 40 → Every (λ t. f ≤ t) ts → f ≤ board.least ts
least_from f [] end every = end
least_from f (t ∷ ts) end every = let here : f ≤ t = every.0 in let rest = least_from f ts end every.1 in omega arith

pub noted_each : (P : ℕ → Type 0) (n : ℕ) (seats : ℕ → SeatState) → Every P (noted_below n seats) → (i : ℕ) → i < n → Every P (seats i).noted
noted_each P zero seats all i below = absurd (omega arith)
noted_each P (suc n) seats all i below =
    go (λ inside. noted_each P n seats (every_front P (noted_below n seats) (seats n).noted all) i inside) (cases_eq i n)
  where
    go : (i < n → Every P (seats i).noted) → (i ≡ n) ⊎ (i ≡ n → ⊥) → Every P (seats i).noted
    go rest (inl is) = subst (λ k. Every P (seats k).noted) (sym is) (every_back P (noted_below n seats) (seats n).noted all)
    go rest (inr other) = rest (omega arith)

pub noted_all : (P : ℕ → Type 0) (n : ℕ) (seats : ℕ → SeatState) → ((i : ℕ) → i < n → Every P (seats i).noted) → Every P (noted_below n seats)
noted_all P zero seats each = tt
noted_all P (suc n) seats each = every_append P (noted_below n seats) (seats n).noted (noted_all P n seats (λ i below. each i (omega arith))) (each n (omega arith))

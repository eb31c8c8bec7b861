-- Rows in order of time, and the events that they are.
use Rattle.std.proofs.Common.{◌≡◌, ℕ, ◌+◌, ◌<◌, ◌≤◌, List, [], ◌∷◌, ◌++◌, ◌⊎◌, inl, inr, sym, subst, ◌∙◌, ap, arith, append-nil, length, true, false, true≢false}
use Rattle.std.specs.Prelude.{◌==◌, All}
use Rattle.std.specs.declared.cmp.Ordering.{Ordering}
use Rattle.std.specs.declared.cmp.Ordering.TheVariants.{Less, Equal}
use Rattle.std.specs.Ordering.{is_gt, nat_cmp, ordering_then}
use Rattle.std.specs.Cmp.{nat_cmp_is}
use Rattle.std.proofs.lemmas.Bool.{cases_lt}
use Rattle.std.proofs.lemmas.Grind.{common_steps}
use Rattle.std.proofs.lemmas.List.Elements.{All-cons, All-nil}
use Rattle.rw_vt.specs.Order.{AtMost, event_cmp}
use Rattle.rw_vt.specs.System.{map_from}
use Rattle.rw_vt.specs.declared.event.Event.{Event}
use Rattle.rw_trace.specs.declared.Row.{Row}
use Rattle.rw_photo.specs.declared.body.Body.{Body}
use Rattle.rw_photo.specs.Events.{event_of}
use Rattle.rw_photo.specs.Rows.{AreInOrder, AreInOrderFrom}

-- what is in order from a time is so from an earlier one
pub from_earlier : (s t : ℕ) (rs : List Row) → s ≤ t → AreInOrderFrom t rs → AreInOrderFrom s rs
from_earlier s t [] l h = tt
from_earlier s t (r ∷ rs) l h = let later = h.0 in (omega arith, h.1)

-- of two events of one source the one that is no later and has the smaller number is at most the other
first_by_number : {B : Type 0} (order : B → B → Ordering) (e f : Event B) → e.time ≤ f.time → e.source ≡ f.source → e.number < f.number → AtMost (event_cmp order) e f
first_by_number order e f time source number = go (cases_lt e.time f.time)
  where
    to_body : Ordering
    to_body = ordering_then (nat_cmp e.to f.to) (order e.body f.body)

    numbers : Ordering
    numbers = ordering_then (nat_cmp e.number f.number) to_body

    go : (e.time < f.time) ⊎ (f.time ≤ e.time) → AtMost (event_cmp order) e f
    go (inl l) = ap (λ r. is_gt (ordering_then r (ordering_then (nat_cmp e.source f.source) numbers))) (sym (nat_cmp_is e.time f.time Less l))
    go (inr l) =
        let same : e.time ≡ f.time = omega arith in
        ap (λ r. is_gt (ordering_then r (ordering_then (nat_cmp e.source f.source) numbers))) (sym (nat_cmp_is e.time f.time Equal same))
        ∙ ap (λ r. is_gt (ordering_then r numbers)) (sym (nat_cmp_is e.source f.source Equal source))
        ∙ ap (λ r. is_gt (ordering_then r to_body)) (sym (nat_cmp_is e.number f.number Less number))

-- an event from outside is at most those of the rows that follow its own
pub at_most_rows : (order : Body → Body → Ordering) (e : Event Body) (k : ℕ) (rs : List Row) → e.source ≡ 0 → e.number < k → AreInOrderFrom e.time rs → All (AtMost (event_cmp order) e) (map_from k event_of rs)
at_most_rows order e k [] outside less h = All-nil (AtMost (event_cmp order) e)
at_most_rows order e k (r ∷ rs) outside less h =
    All-cons (AtMost (event_cmp order) e) (event_of k r) (map_from (k + 1) event_of rs)
    (first_by_number order e (event_of k r) h.0 outside less)
    (at_most_rows order e (k + 1) rs outside (omega arith) (from_earlier e.time r.time rs h.0 h.1))

-- rows in two parts, where the second one is gone on to
pub turned : (rows others : List Row) → true ≡ (length rows == 0) → others ++ [] ≡ rows ++ others
turned [] others none = append-nil others
turned (r ∷ rows) others none = let some : (length (r ∷ rows) == 0) ≡ false = grind (arith, common_steps) in absurd (true≢false (none ∙ some))

-- the second part is none
pub in_order_whole : (rs : List Row) → AreInOrder rs → AreInOrder (rs ++ [])
in_order_whole rs h = subst AreInOrder (sym (append-nil rs)) h

-- An event and then its undoing give back the cache.
use Rattle.std.proofs.Common.{◌≡◌, ℕ, ◌^◌, ◌%◌, ◌<◌, List, Option, Some, None, true, refl, sym, ◌∙◌, ap, subst, arith, length, length-append, ◌+◌}
use Rattle.std.specs.List.Sorted.{IsStrictlySortedBy}
use Rattle.std.specs.Map.{keys_of, lookup, remove_entry}
use Rattle.std.specs.BTreeMap.{is_at}
use Rattle.std.specs.Ordering.{nat_cmp}
use Rattle.rw_vt.specs.declared.event.Event.{Event}
use Rattle.rw_blocks.proofs.Entries.{insert_entry-insert_entry, insert_entry-remove_entry, insert_entry-same, remove_entry-insert_entry, remove_entry-none}
use Rattle.rw_photo.specs.declared.body.Body.{Body}
use Rattle.rw_photo.specs.declared.counters.Counters.{Counters}
use Rattle.rw_photo.specs.declared.undo.Undo.{Undo}
use Rattle.rw_photo.specs.Counts.{AreCounts, sum_of, counters_by, minus, plus, difference_of}
use Rattle.rw_photo.specs.Cache.{Cache, waiting_for, with_waiting}
use Rattle.rw_photo.specs.Events.{Happening, object_of}
use Rattle.rw_photo.specs.Deeds.{HasHappened}
use Rattle.rw_photo.specs.Undoing.{TakesBack, cache_before}

minus-plus : (n k : ℕ) → n < 2 ^ 64 → k < 2 ^ 64 → minus (plus n k) k ≡ n
minus-plus n k a b = omega arith

-- counts that were read modulo 2 ^ 64 are given back
minus-wrapped : (n k : ℕ) → minus (plus (n % 2 ^ 64) k) (minus (plus (n % 2 ^ 64) k) (n % 2 ^ 64)) ≡ n % 2 ^ 64
minus-wrapped n k = omega arith

-- what counts grew by is taken off again
less-wrapped : (k d : Counters) → difference_of (sum_of (counters_by (λ which. which k % 2 ^ 64)) d) (difference_of (sum_of (counters_by (λ which. which k % 2 ^ 64)) d) (counters_by (λ which. which k % 2 ^ 64))) ≡ counters_by (λ which. which k % 2 ^ 64)
less-wrapped k d i = counters_by (λ which. minus-wrapped (which k) (which d) i)

less-grown : (k d : Counters) → AreCounts k → difference_of (sum_of k d) (difference_of (sum_of k d) k) ≡ k
less-grown k d counts = subst (λ x. difference_of (sum_of x d) (difference_of (sum_of x d) x) ≡ x) counts (less-wrapped k d)

-- whatever the object's requests became, they wait again as they did
waiting-back : (m : List (ℕ × ℕ)) (o : ℕ) (old now : Option ℕ) → IsStrictlySortedBy nat_cmp (keys_of m) → lookup (is_at (nat_cmp o)) m ≡ old
    → with_waiting (with_waiting m o now) o old ≡ m
waiting-back m o (Some n) (Some k) up is = insert_entry-insert_entry m o k n ∙ insert_entry-same m o n up is
waiting-back m o (Some n) None up is = insert_entry-remove_entry m o n up is
waiting-back m o None (Some k) up is = remove_entry-insert_entry m o k is
waiting-back m o None None up is = ap (remove_entry (is_at (nat_cmp o))) (remove_entry-none m o is) ∙ remove_entry-none m o is

made : (s t : Cache) → s.queue ≡ t.queue → s.awaited ≡ t.awaited → s.sends ≡ t.sends → s.counters ≡ t.counters → s ≡ t
made s t q a b c i = record { queue = q i; awaited = a i; sends = b i; counters = c i }

-- what happened is taken back by its record
pub takes_back : (h : Happening) (s now : Cache) (e : Event Body) (told out : List (Event Body)) (u : Undo)
    → IsStrictlySortedBy nat_cmp (keys_of s.awaited) → s.sends < 2 ^ 64 → AreCounts s.counters
    → HasHappened h s (object_of e.body) now told out true u.change.trail
    → u.change.counts ≡ difference_of now.counters s.counters → u.sent + length told ≡ length out → u.sent < 2 ^ 64 → u.waiting ≡ waiting_for s (object_of e.body)
    → TakesBack s e u now
takes_back h s now e told out u up sends counters done counted sent few wait =
    record { back = made (cache_before o u now) s (done.leads refl).back awaited sent_back counters_back; leads = done.leads refl; short = done.short refl }
  where
    o : ℕ
    o = object_of e.body

    awaited : with_waiting now.awaited o u.waiting ≡ s.awaited
    awaited =
        ap (λ (w : Cache). with_waiting w.awaited o u.waiting) done.changed
        ∙ (ap (with_waiting (with_waiting s.awaited o h.waiting) o) wait ∙ waiting-back s.awaited o (waiting_for s o) h.waiting up refl)

    all : u.sent ≡ length h.sent
    all = omega (arith, sent, ap length done.sent, length-append told h.sent)

    sent_back : minus now.sends u.sent ≡ s.sends
    sent_back =
        ap (λ (w : Cache). minus w.sends u.sent) done.changed
        ∙ (ap (λ n. minus (plus s.sends n) u.sent) (sym all) ∙ minus-plus s.sends u.sent sends few)

    counters_back : difference_of now.counters u.change.counts ≡ s.counters
    counters_back =
        ap (difference_of now.counters) counted
        ∙ (ap (λ (w : Cache). difference_of w.counters (difference_of w.counters s.counters)) done.changed
        ∙ less-grown s.counters h.counts counters)

-- Bags: the least of what they hold, and how often each element stands in them.
use Rattle.std.specs.Prelude.{◌≡◌, zero, suc, ◌<◌, ◌^◌, min, if◌then◌else◌, List, [], ◌∷◌, Option, Some, None, MatchOption}
use Rattle.std.specs.declared.cmp.Ordering.{Ordering}
use Rattle.std.specs.Ordering.{is_gt}
use Rattle.std.specs.Map.{lookup}
use Rattle.std.specs.BTreeMap.{is_at}
use Rattle.rw_vt.specs.Words.{Count, Time}
use Rattle.rw_vt.specs.declared.event.Event.{Event}
use Rattle.rw_vt.specs.Order.{IsFirst, IsLeastOf}

-- The least

-- the least of the elements, where there are any
abbrev pub IsNextOf : {E : Type 0} → (E → E → Ordering) → List E → Option E → Type 0
IsNextOf cmp xs next = MatchOption next (xs ≡ []) (λ e. IsFirst xs e × IsLeastOf cmp xs e)

-- the lesser of two elements, where there are any
abbrev pub lesser : {E : Type 0} → (E → E → Ordering) → Option E → Option E → Option E
lesser cmp None other = other
lesser cmp (Some x) None = Some x
lesser cmp (Some x) (Some y) = if is_gt (cmp x y) then Some y else Some x

-- the least of m and the times of these events
abbrev pub least_time : {B : Type 0} → Time → List (Event B) → Time
least_time m [] = m
least_time m (e ∷ es) = min e.time (least_time m es)

-- Bags by counts

-- the list with n copies of x before it
unfoldable pub with_copies : {E : Type 0} → Count → E → List E → List E
with_copies zero x xs = xs
with_copies (suc n) x xs = x ∷ with_copies n x xs

-- each element as often as its count says, in the order of the entries
unfoldable pub copies_of : {E : Type 0} → List (E × Count) → List E
copies_of [] = []
copies_of (entry ∷ entries) = with_copies entry.1 entry.0 (copies_of entries)

-- no count is 0, and each is below 2^62: at most MOST_COPIES of the code
abbrev pub AreCopyCounts : {E : Type 0} → (E → E → Ordering) → List (E × Count) → Type 0
AreCopyCounts {E} cmp entries =
    (x : E) (n : Count) → lookup (is_at (cmp x)) entries ≡ Some n → (0 < n) × (n < 2 ^ 62)

-- The first initial event, which stands before the others.
use Rattle.std.proofs.Common.{◌≡◌, List, [], ◌++◌, refl, sym, ◌∙◌, ap, Option, Some, None, All, IfSome, IfNone}
use Rattle.std.specs.declared.cmp.Ordering.{Ordering}
use Rattle.std.specs.Cmp.{IsTotalOrder}
use Rattle.std.specs.Option.{option_to_list}
use Rattle.std.specs.List.{slice_get}
use Rattle.std.proofs.lemmas.List.Elements.{All-cons}
use Rattle.rw_vt.specs.declared.event.Event.{Event}
use Rattle.rw_vt.specs.Order.{AtMost, event_cmp}
use Rattle.rw_pending.proofs.Queue.{at_most_self}
use Rattle.rw_pending.specs.Pending.{StandsBefore}

-- a source's next event stands before what the source then has
pub stands_before : {B : Type 0} (order : B → B → Ordering) (next : Option (Event B)) (xs rest : List (Event B)) → xs ≡ option_to_list next ++ rest
    → IfSome next (λ e. All (AtMost (event_cmp order) e) rest) → IfNone next (xs ≡ []) → StandsBefore order next rest
stands_before order None xs rest is least none = sym is ∙ none
stands_before order (Some e) xs rest is least none = least

-- so it is the first
pub first_stands : {B : Type 0} (order : B → B → Ordering) (first : Option (Event B)) (others : List (Event B)) → StandsBefore order first others → first ≡ slice_get (option_to_list first ++ others) 0
first_stands order None others before = ap (λ l. slice_get l 0) (sym before)
first_stands order (Some e) others before = refl

-- where there is none, there is nothing
pub none_first : {B : Type 0} (order : B → B → Ordering) (first : Option (Event B)) (others : List (Event B)) → StandsBefore order first others → IfNone first (option_to_list first ++ others ≡ [])
none_first order None others before = before
none_first order (Some e) others before = tt

-- and a least one
pub first_least : {B : Type 0} (order : B → B → Ordering) → IsTotalOrder (event_cmp order) → (first : Option (Event B)) (others : List (Event B)) → StandsBefore order first others
    → IfSome first (λ e. All (AtMost (event_cmp order) e) (option_to_list first ++ others))
first_least order o None others before = tt
first_least order o (Some e) others before = All-cons (AtMost (event_cmp order) e) e others (at_most_self o e) before

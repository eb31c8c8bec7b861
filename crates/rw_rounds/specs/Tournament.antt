-- A tournament, a tree with the least of the events below it at each node. The contracts of public
-- calls see its leaves alone.
use Rattle.std.specs.Prelude.{◌≡◌, ◌+◌, ◌*◌, ◌<◌, Bool, true, false, if◌then◌else◌, List, length, map, drop, slice_index_or, Option, Some, None}
use Rattle.std.specs.Option.{option_map}
use Rattle.std.specs.declared.cmp.Ordering.{Ordering}
use Rattle.std.specs.Ordering.{is_gt}
use Rattle.rw_vt.specs.Words.{Count, Position}
use Rattle.rw_vt.specs.declared.event.Event.{Event}
use Rattle.rw_rounds.specs.declared.tournament.Entry.{Entry}

-- what stands at node k; nothing stands past the last one
abbrev pub node_at : {B : Type 0} → List (Option (Entry B)) → Position → Option (Entry B)
node_at nodes k = slice_index_or nodes k None

-- of two, the second has an event, and the first has none or a greater one
abbrev pub is_second_less : {B : Type 0} → (Event B → Event B → Ordering) → Option (Entry B)
    → Option (Entry B) → Bool
is_second_less cmp a None = false
is_second_less cmp None (Some f) = true
is_second_less cmp (Some e) (Some f) = is_gt (cmp e.event f.event)

-- the lesser of two; the first of two equal ones
abbrev pub winner : {B : Type 0} → (Event B → Event B → Ordering) → Option (Entry B)
    → Option (Entry B) → Option (Entry B)
winner cmp a b = if is_second_less cmp a b then b else a

-- at node k stands the lesser of what stands at the two nodes below it
abbrev pub IsPlayed : {B : Type 0} → (Event B → Event B → Ordering) → List (Option (Entry B))
    → Position → Type 0
IsPlayed cmp nodes k =
    node_at nodes k ≡ winner cmp (node_at nodes (2 * k)) (node_at nodes (2 * k + 1))

-- a tournament of n places: node 1 is the top, below node k stand the nodes 2 k and 2 k + 1, and
-- the last n nodes are the places
pub record IsTournament {B : Type 0} (cmp : Event B → Event B → Ordering) (n : Count)
    (nodes : List (Option (Entry B))) : Type 0 where
  pub size : length nodes ≡ 2 * n
  pub played : (k : Position) → 0 < k → k < n → IsPlayed cmp nodes k
  pub placed : (place : Position) (e : Entry B) → place < n
      → node_at nodes (n + place) ≡ Some e → e.place ≡ place

-- the event at each place
abbrev pub leaves : {B : Type 0} → Count → List (Option (Entry B)) → List (Option (Event B))
leaves n nodes = map (option_map (λ e. e.event)) (drop n nodes)

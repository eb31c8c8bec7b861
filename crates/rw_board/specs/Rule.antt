-- The rule of the board's one word, and the steps that keep it. No contract of a function speaks of it.
use Rattle.std.specs.Prelude.{◌≡◌, ℕ, ◌+◌, ◌-◌, ◌<◌, ◌≤◌, min, List, [], ◌∷◌, ◌++◌}
use mathlib.Core.Option.{some}
use lib.ListN.{get_elem?}
use Rattle.atomic_table.specs.Table.{State, Me, Step}
use Rattle.rw_vt.specs.Words.{Count, Time}
use Rattle.rw_vt.specs.Limits.{end_of_time}
use Rattle.rw_board.specs.Least.{least}
use Rattle.rw_board.specs.declared.rule.View.{View}

abbrev pub view : List Time → Time → Count → View
view noted read weight = record { noted = noted; read = read; weight = weight }

-- the least of the end of time and of all that was noted
abbrev pub least_of_all : List View → Time
least_of_all [] = end_of_time
least_of_all (v ∷ vs) = min (least v.noted) (least_of_all vs)

abbrev pub weights : List View → Count
weights [] = 0
weights (v ∷ vs) = v.weight + weights vs

-- The rule for n seats: the word is the least of the end of time and of all notes, and at most the last reading of each
-- seat that is not spent; a seat of weight 0 is spent and has noted nothing; the weights add up to n
pub record KeepsRule {S : Type 0} (n : Count) (s : State S View) : Type 0 where
  pub word : s.words ≡ least_of_all s.views ∷ []
  pub bound :
      (k : ℕ) (v : View)
      → get_elem? s.views k ≡ some v
      → 0 < v.weight
      → least_of_all s.views ≤ v.read
  pub spent : (k : ℕ) (v : View) → get_elem? s.views k ≡ some v → v.weight ≡ 0 → v.noted ≡ []
  pub whole : weights s.views ≡ n

module _ {S : Type 0} where
  -- a fetch_min: the caller has noted the time
  abbrev pub Notes : Step S → Me S View → Time → Me S View → Type 0
  Notes st m found w = w ≡ (view (m.0.noted ++ st.first ∷ []) m.0.read m.0.weight, m.1)

  -- a load: the caller has read the word, which is no later than the end of time, than what it noted and than what it
  -- read before
  abbrev pub Reads : Step S → Me S View → Time → Me S View → Type 0
  Reads st m found w =
      (w ≡ (view m.0.noted found m.0.weight, m.1))
      × (found ≤ end_of_time)
      × (found ≤ least m.0.noted)
      × (found ≤ m.0.read)

-- the first seat, which has the whole weight
abbrev pub whole_view : Count → View
whole_view n = view [] end_of_time n

-- what is left of a seat that gives a new one a weight of one
abbrev pub with_one_less : View → View
with_one_less v = view v.noted v.read (v.weight - 1)

-- the new seat
abbrev pub new_view : View → View
new_view v = view [] end_of_time 1

-- a seat that takes over what another has noted, and the lesser of the two last readings
abbrev pub joined_view : View → View → View
joined_view v w = view (v.noted ++ w.noted) (min v.read w.read) (v.weight + w.weight)

-- a spent seat
abbrev pub spent_view : View
spent_view = view [] end_of_time 0

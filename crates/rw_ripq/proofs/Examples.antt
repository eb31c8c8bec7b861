-- The worked examples, computed by the definitions.
use Rattle.std.proofs.Common.{◌≡◌, ℕ, List, [], ◌∷◌, refl, arith, true}
use Rattle.std.specs.Prelude.{Option, Some, None, map, fold}
use Rattle.std.specs.List.{range_with_len}
use Rattle.rw_blocks.specs.declared.Kind.{Kind}
use Rattle.rw_blocks.specs.declared.Kind.TheVariants.{Device, Virtual}
use Rattle.rw_blocks.specs.declared.Place.{Place}
use Rattle.rw_blocks.specs.Sections.{SectionState}
use Rattle.rw_blocks.specs.State.{QueueState, ShapeState, start_of}
use Rattle.rw_blocks.specs.Sums.{fill, section_bytes, total}
use Rattle.rw_blocks.specs.Primitives.{after_add, after_replace, after_seal}
use Rattle.rw_ripq.specs.declared.Policy.TheVariants.{Lru, Slru}
use Rattle.rw_ripq.specs.declared.Tally.{Tally}
use Rattle.rw_ripq.specs.declared.segments.Levels.{Levels}
use Rattle.rw_ripq.specs.Words.{IsSegmentCount}
use Rattle.rw_ripq.specs.Work.{Work}
use Rattle.rw_ripq.specs.Levels.{level_of, target}
use Rattle.rw_ripq.specs.Promote.{promote}
use Rattle.rw_ripq.specs.Purge.{purge, purge_by}
use Rattle.rw_ripq.specs.Insert.{insert}

abbrev limits : ℕ → ℕ → ℕ → ShapeState
limits k b c = record { sections = k; block = b; blocks = c }

abbrev section : ℕ → ℕ → List (ℕ × Kind) → SectionState
section d v sealed = record { active_device = d; active_virtual = v; sealed = sealed }

abbrev row : ℕ → ℕ → ℕ → Place
row z h p = record { size = z; home = h; place = p }

abbrev queue : ShapeState → List SectionState → List (ℕ × Place) → ℕ → QueueState
queue limits sections rows next = record { shape = limits; sections = sections; rows = rows; next = next }

abbrev tally : ℕ → ℕ → ℕ → ℕ → ℕ → Tally
tally e r w s m = record { evicted = e; reinserted = r; writes = w; splits = s; merges = m }

abbrev work : QueueState → Tally → Work
work q t = record { queue = q; tally = t }

abbrev lru : QueueState → ℕ → Work
lru q o = insert Lru q o 6 1

-- ---- one section, one sealed device block: the third insertion evicts the first object
abbrev one : ShapeState
one = limits 1 10 1

abbrev filled : QueueState
filled = (lru (lru (start_of one) 100).queue 101).queue

evicts_at_the_third : lru filled 102 ≡ work (queue one (section 3 1 ((2, Device) ∷ []) ∷ []) ((101, row 6 2 2) ∷ (102, row 6 3 3) ∷ []) 4) (tally 1 0 1 0 0)
evicts_at_the_third = refl

-- ---- with a promotion before it: the promoted object is written again
abbrev promoted : QueueState
promoted = promote Lru filled 100

raises_the_first : promoted ≡ queue one (section 2 1 ((0, Device) ∷ []) ∷ []) ((100, row 6 0 1) ∷ (101, row 6 2 2) ∷ []) 3
raises_the_first = refl

writes_again : lru promoted 102 ≡ work (queue one (section 4 1 ((3, Device) ∷ []) ∷ []) ((100, row 6 4 4) ∷ (102, row 6 3 3) ∷ []) 5) (tally 1 1 2 0 0)
writes_again = refl

-- ---- a virtual victim, then a device one
abbrev sealed_twice : QueueState
sealed_twice = after_seal (after_add (after_seal (after_replace (after_add (start_of one) 100 6 0) 100 0) 0 Virtual) 101 4 0) 0 Device

two_are_sealed : sealed_twice ≡ queue one (section 3 2 ((0, Device) ∷ (1, Virtual) ∷ []) ∷ []) ((100, row 6 0 1) ∷ (101, row 4 0 0) ∷ []) 4
two_are_sealed = refl

evicts_both : lru (lru sealed_twice 102).queue 103 ≡ work (queue one (section 4 2 ((3, Device) ∷ []) ∷ []) ((102, row 6 3 3) ∷ (103, row 6 4 4) ∷ []) 5) (tally 2 0 1 0 0)
evicts_both = refl

-- ---- a promotion that empties a sealed virtual block
abbrev four : ShapeState
four = limits 1 10 4

abbrev twice : QueueState
twice = promote Lru (promote Lru (lru (lru (lru (start_of four) 100).queue 101).queue 102).queue 100) 101

seals_virtual : twice ≡ queue four (section 3 4 ((1, Virtual) ∷ (2, Device) ∷ (0, Device) ∷ []) ∷ []) ((100, row 6 0 1) ∷ (101, row 6 2 4) ∷ (102, row 6 3 3) ∷ []) 5
seals_virtual = refl

takes_out : promote Lru twice 100 ≡ queue four (section 3 5 ((4, Virtual) ∷ (2, Device) ∷ (0, Device) ∷ []) ∷ []) ((100, row 6 0 5) ∷ (101, row 6 2 4) ∷ (102, row 6 3 3) ∷ []) 6
takes_out = refl

-- ---- a purge that empties a sealed virtual block, and one of an object in the active device block
empties : purge twice 100 ≡ queue four (section 3 4 ((2, Device) ∷ (0, Device) ∷ []) ∷ []) ((101, row 6 2 4) ∷ (102, row 6 3 3) ∷ []) 5
empties = refl

leaves_blocks : purge twice 102 ≡ queue four (section 3 4 ((1, Virtual) ∷ (2, Device) ∷ (0, Device) ∷ []) ∷ []) ((100, row 6 0 1) ∷ (101, row 6 2 4) ∷ []) 5
leaves_blocks = refl

holds_nothing : fill (purge twice 102) 3 ≡ 0
holds_nothing = refl

-- ---- a purge that also takes out the home that it leaves without rows, and one that leaves a home
reclaims : purge_by true twice 100 ≡ queue four (section 3 4 ((2, Device) ∷ []) ∷ []) ((101, row 6 2 4) ∷ (102, row 6 3 3) ∷ []) 5
reclaims = refl

leaves_a_home : purge_by true sealed_twice 100 ≡ queue one (section 3 2 ((0, Device) ∷ []) ∷ []) ((101, row 4 0 0) ∷ []) 4
leaves_a_home = refl

-- ---- splits and a merge
abbrev many : ShapeState
many = limits 4 10 8

abbrev three : QueueState
three = (lru (lru (lru (start_of many) 100).queue 101).queue 102).queue

splits : three ≡ queue many (section 3 1 ((2, Device) ∷ []) ∷ section 4 5 ((0, Device) ∷ []) ∷ []) ((100, row 6 0 0) ∷ (101, row 6 2 2) ∷ (102, row 6 3 3) ∷ []) 6
splits = refl

abbrev third : QueueState
third = (lru three 103).queue

splits_again : lru three 103 ≡ work (queue many (section 6 1 ((3, Device) ∷ []) ∷ section 7 8 ((2, Device) ∷ []) ∷ section 4 5 ((0, Device) ∷ []) ∷ []) ((100, row 6 0 0) ∷ (101, row 6 2 2) ∷ (102, row 6 3 3) ∷ (103, row 6 6 6) ∷ []) 9) (tally 0 0 1 1 0)
splits_again = refl

abbrev raised : QueueState
raised = promote Lru (promote Lru third 100) 101

abbrev merged : QueueState
merged =
    queue many
    (section 10 9 ((6, Device) ∷ (1, Virtual) ∷ []) ∷ section 11 12 ((3, Device) ∷ []) ∷ section 7 8 ((2, Device) ∷ (0, Device) ∷ []) ∷ [])
    ((100, row 6 0 1) ∷ (101, row 6 2 9) ∷ (102, row 6 3 3) ∷ (103, row 6 6 6) ∷ (104, row 6 10 10) ∷ [])
    13

merges_and_splits : lru raised 104 ≡ work merged (tally 0 0 1 1 1)
merges_and_splits = refl

bytes_after : section_bytes merged 0 ∷ section_bytes merged 1 ∷ section_bytes merged 2 ∷ [] ≡ 24 ∷ 6 ∷ 0 ∷ []
bytes_after = refl

-- ---- levels and targets of some segments
bytes_before : section_bytes third 0 ∷ section_bytes third 1 ∷ section_bytes third 2 ∷ total third ∷ [] ≡ 12 ∷ 6 ∷ 6 ∷ 24 ∷ []
bytes_before = refl

abbrev of : (n : ℕ) → IsSegmentCount n → Levels
of n ok = record { segments = n; in_range = ok }

abbrev of_three : Levels
of_three = of 3 (omega arith, omega arith)

-- of the four objects stored, and of one that is not
abbrev levels : Levels → List (Option ℕ)
levels ls = map (level_of ls third) (100 ∷ 101 ∷ 102 ∷ 103 ∷ 104 ∷ [])

-- of each level, the lowest one first
abbrev targets : Levels → List ℕ
targets ls = map (target (Slru ls) third) (range_with_len 1 ls.segments)

module _ (ok2 : IsSegmentCount 2) (ok4 : IsSegmentCount 4) (ok8 : IsSegmentCount 8) where
  levels_of_two : levels (of 2 ok2) ≡ Some 1 ∷ Some 1 ∷ Some 2 ∷ Some 2 ∷ None ∷ []
  levels_of_two = refl

  targets_of_two : targets (of 2 ok2) ≡ 1 ∷ 0 ∷ []
  targets_of_two = refl

  levels_of_four : levels (of 4 ok4) ≡ Some 1 ∷ Some 2 ∷ Some 3 ∷ Some 3 ∷ None ∷ []
  levels_of_four = refl

  targets_of_four : targets (of 4 ok4) ≡ 2 ∷ 1 ∷ 0 ∷ 0 ∷ []
  targets_of_four = refl

  levels_of_eight : levels (of 8 ok8) ≡ Some 1 ∷ Some 3 ∷ Some 5 ∷ Some 5 ∷ None ∷ []
  levels_of_eight = refl

  targets_of_eight : targets (of 8 ok8) ≡ 2 ∷ 2 ∷ 1 ∷ 1 ∷ 0 ∷ 0 ∷ 0 ∷ 0 ∷ []
  targets_of_eight = refl

levels_of_three : levels of_three ≡ Some 1 ∷ Some 1 ∷ Some 2 ∷ Some 2 ∷ None ∷ []
levels_of_three = refl

targets_of_three : targets of_three ≡ 1 ∷ 0 ∷ 0 ∷ []
targets_of_three = refl

-- with several sections and nothing stored, the tail section is the target of all levels but the highest
targets_of_none : map (target (Slru of_three) (fold purge third (100 ∷ 101 ∷ 102 ∷ 103 ∷ []))) (1 ∷ 2 ∷ 3 ∷ []) ≡ 2 ∷ 2 ∷ 0 ∷ []
targets_of_none = refl

put_second : insert (Slru of_three) third 104 6 1 ≡ work (queue many (section 6 1 ((3, Device) ∷ []) ∷ section 7 8 ((2, Device) ∷ []) ∷ section 4 5 ((0, Device) ∷ []) ∷ []) ((100, row 6 0 0) ∷ (101, row 6 2 2) ∷ (102, row 6 3 3) ∷ (103, row 6 6 6) ∷ (104, row 6 7 7) ∷ []) 9) (tally 0 0 0 0 0)
put_second = refl

first_is_raised : promote (Slru of_three) third 100 ≡ queue many (section 6 1 ((3, Device) ∷ []) ∷ section 7 8 ((2, Device) ∷ []) ∷ section 4 5 ((0, Device) ∷ []) ∷ []) ((100, row 6 0 1) ∷ (101, row 6 2 2) ∷ (102, row 6 3 3) ∷ (103, row 6 6 6) ∷ []) 9
first_is_raised = refl

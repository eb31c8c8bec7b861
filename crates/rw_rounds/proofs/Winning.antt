-- A tournament: the top is the least of all places, and one change is played again on the way up.
use Rattle.std.proofs.Common.{◌≡◌, ◌≢◌, ℕ, zero, suc, ◌+◌, ◌-◌, ◌*◌, ◌<◌, ◌≤◌, Bool, true, false, cond, List, ◌∷◌, length, map, drop, replicate, refl, sym, ap, ◌∙◌, subst, arith, inl, inr, Option, Some, None, length-drop}
use Rattle.std.specs.Prelude.{◌⊎◌, ◌/◌, slice_index_or, slice_set}
use Rattle.std.specs.Option.{option_map}
use Rattle.std.specs.declared.cmp.Ordering.{Ordering}
use Rattle.std.specs.Ordering.{is_gt}
use Rattle.std.proofs.lemmas.Bool.{cases_eq, cases_lt}
use Rattle.std.proofs.lemmas.List.{get_or-set_same, get_or-set_other, get_or-drop, get_or-map, get_or-replicate, get_or_past, drop-replicate, drop-set-add, ext_get_or, length-map, length-replicate, length-set, map-set}
use Rattle.std.proofs.lemmas.Option.{same_Some}
use Rattle.rw_vt.specs.declared.event.Event.{Event}
use Rattle.rw_vt.specs.Order.{AtMost}
use Rattle.rw_vt.proofs.Sorting.{IsExactOrder, at_most_itself, at_most_chain, at_most_other}
use Rattle.rw_rounds.specs.declared.tournament.Entry.{Entry}
use Rattle.rw_rounds.specs.Tournament.{node_at, is_second_less, winner, IsPlayed, IsTournament, leaves}

-- Playing again

module _ {B : Type 0} (cmp : Event B → Event B → Ordering) (xs : List (Option (Entry B))) where
  -- a node whose own and whose lower ones stay is played as before
  stays : (ys : List (Option (Entry B))) (k : ℕ) → node_at ys k ≡ node_at xs k → node_at ys (2 * k) ≡ node_at xs (2 * k) → node_at ys (2 * k + 1) ≡ node_at xs (2 * k + 1) → IsPlayed cmp xs k → IsPlayed cmp ys k
  stays ys k own first second played = own ∙ played ∙ ap (λ a. winner cmp a (node_at xs (2 * k + 1))) (sym first) ∙ ap (winner cmp (node_at ys (2 * k))) (sym second)

  -- all nodes but one are played, which is to have this
  module _ (node : ℕ) (others : (k : ℕ) → 0 < k → 2 * k + 1 < length xs → k ≢ node → IsPlayed cmp xs k) (won : Option (Entry B)) (is : won ≡ winner cmp (node_at xs (2 * node)) (node_at xs (2 * node + 1))) where
    -- once it has, all are but the one above it
    pub play_above : 0 < node → 2 * node + 1 < length xs → (k : ℕ) → 0 < k → 2 * k + 1 < length xs → k ≢ node / 2 → IsPlayed cmp (slice_set xs node won) k
    play_above positive inside k above within apart = go (cases_eq k node)
      where
        other : (j : ℕ) → j ≢ node → node_at (slice_set xs node won) j ≡ node_at xs j
        other j d = get_or-set_other xs node j won None d

        go : (k ≡ node) ⊎ (k ≢ node) → IsPlayed cmp (slice_set xs node won) k
        go (inl e) =
            subst (IsPlayed cmp (slice_set xs node won)) (sym e)
            (get_or-set_same xs node won None (omega arith) ∙ is ∙ ap (λ a. winner cmp a (node_at xs (2 * node + 1))) (sym (other (2 * node) (omega arith))) ∙ ap (winner cmp (node_at (slice_set xs node won) (2 * node))) (sym (other (2 * node + 1) (omega arith))))
        go (inr d) = stays (slice_set xs node won) k (other k d) (other (2 * k) (omega arith)) (other (2 * k + 1) (omega arith)) (others k above within d)

    -- where it has it already, all are
    pub play_same : node_at xs node ≡ won → (k : ℕ) → 0 < k → 2 * k + 1 < length xs → IsPlayed cmp xs k
    play_same same k above within = go (cases_eq k node)
      where
        go : (k ≡ node) ⊎ (k ≢ node) → IsPlayed cmp xs k
        go (inl e) = subst (IsPlayed cmp xs) (sym e) (same ∙ is)
        go (inr d) = others k above within d

-- The top

-- a is at most b, where b has an event
abbrev pub Beats : {B : Type 0} → (Event B → Event B → Ordering) → Option (Entry B) → Option (Entry B) → Type 0
Beats {B} cmp a b = (f : Entry B) → b ≡ Some f → (e : Entry B) × (a ≡ Some e) × AtMost cmp e.event f.event

module _ {B : Type 0} {cmp : Event B → Event B → Ordering} (o : IsExactOrder cmp) where
  beats_itself : (a : Option (Entry B)) → Beats cmp a a
  beats_itself a = λ f is. (f, is, at_most_itself o f.event)

  beats_chain : (a b c : Option (Entry B)) → Beats cmp a b → Beats cmp b c → Beats cmp a c
  beats_chain a b c h k = λ f is.
      let second = k f is in
      let first = h second.0 second.1 in
      (first.0, first.1, at_most_chain o first.0.event second.0.event f.event first.2 second.2)

  some_of : (e f : Entry B) → Some e ≡ Some f → AtMost cmp e.event f.event
  some_of e f is = subst (λ g. AtMost cmp e.event g.event) (same_Some e f is) (at_most_itself o e.event)

  first_by : (d e f : Entry B) → Some d ≡ Some f → (t : Bool) → is_gt (cmp d.event e.event) ≡ t → (g : Entry B) × (cond t (Some e) (Some d) ≡ Some g) × AtMost cmp g.event f.event
  first_by d e f is true h = (e, refl, subst (λ g. AtMost cmp e.event g.event) (same_Some d f is) (at_most_other o d.event e.event h))
  first_by d e f is false h = (d, refl, some_of d f is)

  second_by : (d e f : Entry B) → Some e ≡ Some f → (t : Bool) → is_gt (cmp d.event e.event) ≡ t → (g : Entry B) × (cond t (Some e) (Some d) ≡ Some g) × AtMost cmp g.event f.event
  second_by d e f is true h = (e, refl, some_of e f is)
  second_by d e f is false h = (d, refl, subst (λ g. AtMost cmp d.event g.event) (same_Some e f is) h)

  winner_first : (a b : Option (Entry B)) → Beats cmp (winner cmp a b) a
  winner_first a None = beats_itself a
  winner_first None (Some e) = λ f is. cc
  winner_first (Some d) (Some e) = λ f is. first_by d e f is (is_gt (cmp d.event e.event)) refl

  winner_second : (a b : Option (Entry B)) → Beats cmp (winner cmp a b) b
  winner_second a None = λ f is. cc
  winner_second None (Some e) = beats_itself (Some e)
  winner_second (Some d) (Some e) = λ f is. second_by d e f is (is_gt (cmp d.event e.event)) refl

  module _ (n : ℕ) (nodes : List (Option (Entry B))) (t : IsTournament cmp n nodes) where
    -- a node is at most each of the two below it
    above_beats : (j k : ℕ) → 0 < j → j < n → (k ≡ 2 * j) ⊎ (k ≡ 2 * j + 1) → Beats cmp (node_at nodes j) (node_at nodes k)
    above_beats j k above within (inl e) =
        subst (λ a. Beats cmp a (node_at nodes k)) (sym (t.played j above within))
        (subst (λ i. Beats cmp (winner cmp (node_at nodes (2 * j)) (node_at nodes (2 * j + 1))) (node_at nodes i)) (sym e) (winner_first (node_at nodes (2 * j)) (node_at nodes (2 * j + 1))))
    above_beats j k above within (inr e) =
        subst (λ a. Beats cmp a (node_at nodes k)) (sym (t.played j above within))
        (subst (λ i. Beats cmp (winner cmp (node_at nodes (2 * j)) (node_at nodes (2 * j + 1))) (node_at nodes i)) (sym e) (winner_second (node_at nodes (2 * j)) (node_at nodes (2 * j + 1))))

    halved : (k : ℕ) → (k ≡ 2 * (k / 2)) ⊎ (k ≡ 2 * (k / 2) + 1)
    halved k = go (cases_eq k (2 * (k / 2)))
      where
        go : (k ≡ 2 * (k / 2)) ⊎ (k ≢ 2 * (k / 2)) → (k ≡ 2 * (k / 2)) ⊎ (k ≡ 2 * (k / 2) + 1)
        go (inl e) = inl e
        go (inr d) = inr (omega arith)

    -- so the top is at most each node
    top_beats : (fuel k : ℕ) → k ≤ fuel → 0 < k → k < 2 * n → Beats cmp (node_at nodes 1) (node_at nodes k)
    top_beats zero k enough above within = absurd (omega arith)
    top_beats (suc fuel) k enough above within = go (cases_eq k 1) (λ d. top_beats fuel (k / 2) (omega arith) (omega arith) (omega arith))
      where
        go : (k ≡ 1) ⊎ (k ≢ 1) → (k ≢ 1 → Beats cmp (node_at nodes 1) (node_at nodes (k / 2))) → Beats cmp (node_at nodes 1) (node_at nodes k)
        go (inl e) up = subst (λ j. Beats cmp (node_at nodes 1) (node_at nodes j)) (sym e) (beats_itself (node_at nodes 1))
        go (inr d) up = beats_chain (node_at nodes 1) (node_at nodes (k / 2)) (node_at nodes k) (up d) (above_beats (k / 2) k (omega arith) (omega arith) (halved k))

-- The places

module _ {B : Type 0} {cmp : Event B → Event B → Ordering} (n : ℕ) (nodes : List (Option (Entry B))) (t : IsTournament cmp n nodes) where
  winner_is : (a b : Option (Entry B)) → (winner cmp a b ≡ a) ⊎ (winner cmp a b ≡ b)
  winner_is a b = go (is_second_less cmp a b)
    where
      go : (c : Bool) → (cond c b a ≡ a) ⊎ (cond c b a ≡ b)
      go true = inr refl
      go false = inl refl

  -- what stands at a node stands at a place
  stands : (fuel k : ℕ) → 2 * n ≤ k + fuel → 0 < k → k < 2 * n → (e : Entry B) → node_at nodes k ≡ Some e → (e.place < n) × (node_at nodes (n + e.place) ≡ Some e)
  stands zero k enough above within e is = absurd (omega arith)
  stands (suc fuel) k enough above within e is = go (cases_lt k n) (λ low at. stands fuel (2 * k) (omega arith) (omega arith) (omega arith) e at) (λ low at. stands fuel (2 * k + 1) (omega arith) (omega arith) (omega arith) e at)
    where
      At : Type 0
      At = (e.place < n) × (node_at nodes (n + e.place) ≡ Some e)

      down : k < n → (node_at nodes (2 * k) ≡ Some e → (e.place < n) × (node_at nodes (n + e.place) ≡ Some e)) → (node_at nodes (2 * k + 1) ≡ Some e → (e.place < n) × (node_at nodes (n + e.place) ≡ Some e)) → (winner cmp (node_at nodes (2 * k)) (node_at nodes (2 * k + 1)) ≡ node_at nodes (2 * k)) ⊎ (winner cmp (node_at nodes (2 * k)) (node_at nodes (2 * k + 1)) ≡ node_at nodes (2 * k + 1)) → (e.place < n) × (node_at nodes (n + e.place) ≡ Some e)
      down low first second (inl w) = first (sym w ∙ sym (t.played k above low) ∙ is)
      down low first second (inr w) = second (sym w ∙ sym (t.played k above low) ∙ is)

      go : (k < n) ⊎ (n ≤ k) → (k < n → node_at nodes (2 * k) ≡ Some e → (e.place < n) × (node_at nodes (n + e.place) ≡ Some e)) → (k < n → node_at nodes (2 * k + 1) ≡ Some e → (e.place < n) × (node_at nodes (n + e.place) ≡ Some e)) → (e.place < n) × (node_at nodes (n + e.place) ≡ Some e)
      go (inl low) first second = down low (first low) (second low) (winner_is (node_at nodes (2 * k)) (node_at nodes (2 * k + 1)))
      go (inr high) first second =
          let here : n + (k - n) ≡ k = omega arith in
          let at : node_at nodes (n + (k - n)) ≡ Some e = ap (node_at nodes) here ∙ is in
          let place : e.place ≡ k - n = t.placed (k - n) e (omega arith) at in
          (omega arith, ap (λ p. node_at nodes (n + p)) place ∙ at)

  leaf_at : (place : ℕ) → place < n → slice_index_or (leaves n nodes) place None ≡ option_map (λ (e : Entry B). e.event) (node_at nodes (n + place))
  leaf_at place within =
      let long : place < length (drop n nodes) = omega (arith, length-drop n nodes, t.size) in
      get_or-map (option_map (λ (e : Entry B). e.event)) (drop n nodes) place None None long ∙ ap (option_map (λ (e : Entry B). e.event)) (get_or-drop n nodes place None)

  pub length-leaves : length (leaves n nodes) ≡ n
  length-leaves = length-map (drop n nodes) (option_map (λ (e : Entry B). e.event)) ∙ (omega (arith, length-drop n nodes, t.size))

  leaf_within : (place : ℕ) (f : Event B) → slice_index_or (leaves n nodes) place None ≡ Some f → place < n
  leaf_within place f is = go (cases_lt place n)
    where
      go : (place < n) ⊎ (n ≤ place) → place < n
      go (inl low) = low
      go (inr high) = let none : slice_index_or (leaves n nodes) place None ≡ None = get_or_past (leaves n nodes) place None (omega (arith, length-leaves)) in let never : None ≡ Some f = sym none ∙ is in cc

  -- the top stands at its place
  pub top_there : (e : Entry B) → node_at nodes 1 ≡ Some e → slice_index_or (leaves n nodes) e.place None ≡ Some e.event
  top_there e is =
      let positive : 0 < n = go (cases_lt 0 n) in
      let at = stands (2 * n) 1 (omega arith) (omega arith) (omega arith) e is in
      leaf_at e.place at.0 ∙ ap (option_map (λ (d : Entry B). d.event)) at.1
    where
      go : (0 < n) ⊎ (n ≤ 0) → 0 < n
      go (inl low) = low
      go (inr high) = let none : node_at nodes 1 ≡ None = get_or_past nodes 1 None (omega (arith, t.size)) in let never : None ≡ Some e = sym none ∙ is in cc

  module _ (o : IsExactOrder cmp) where
    pub top_least : (e : Entry B) → node_at nodes 1 ≡ Some e → (place : ℕ) (f : Event B) → slice_index_or (leaves n nodes) place None ≡ Some f → AtMost cmp e.event f
    top_least e is place f at = go (node_at nodes (n + place)) refl (sym (leaf_at place within) ∙ at)
      where
        within : place < n
        within = leaf_within place f at

        go : (a : Option (Entry B)) → node_at nodes (n + place) ≡ a → option_map (λ (d : Entry B). d.event) a ≡ Some f → AtMost cmp e.event f
        go None here event = cc
        go (Some d) here event =
            let inside : place < n = leaf_within place f at in
            let best = top_beats o n nodes t (n + place) (n + place) (omega arith) (omega arith) (omega arith) d here in
            let same : Some best.0 ≡ Some e = sym best.1 ∙ is in
            let first : best.0 ≡ e = cc in
            let second : d.event ≡ f = cc in
            subst (λ g. AtMost cmp g.event f) first (subst (AtMost cmp best.0.event) second best.2)

    pub top_none : node_at nodes 1 ≡ None → (place : ℕ) → slice_index_or (leaves n nodes) place None ≡ None
    top_none none place = go (slice_index_or (leaves n nodes) place None) refl
      where
        go : (a : Option (Event B)) → slice_index_or (leaves n nodes) place None ≡ a → a ≡ None
        go None at = refl
        go (Some f) at = inner (node_at nodes (n + place)) refl (sym (leaf_at place (leaf_within place f at)) ∙ at)
          where
            inner : (b : Option (Entry B)) → node_at nodes (n + place) ≡ b → option_map (λ (d : Entry B). d.event) b ≡ Some f → Some f ≡ None
            inner None here event = cc
            inner (Some d) here event =
                let inside : place < n = leaf_within place f at in
                let best = top_beats o n nodes t (n + place) (n + place) (omega arith) (omega arith) (omega arith) d here in
                let never : Some best.0 ≡ None = sym best.1 ∙ none in cc

-- Nothing at all

abbrev nobody : {B : Type 0} → Option (Entry B)
nobody = None

none_in : {B : Type 0} (m k : ℕ) → node_at (replicate m (nobody {B = B})) k ≡ None
none_in {B} m k = go (cases_lt k m)
  where
    go : (k < m) ⊎ (m ≤ k) → node_at (replicate m (nobody {B = B})) k ≡ None
    go (inl low) = get_or-replicate m k None None low
    go (inr high) = get_or_past (replicate m (nobody {B = B})) k None (omega (arith, length-replicate m (nobody {B = B})))

map-none : {X Y : Type 0} (f : X → Y) (n : ℕ) → map (option_map f) (replicate n None) ≡ replicate n None
map-none f zero = refl
map-none f (suc n) = ap (λ l. None ∷ l) (map-none f n)

pub none_placed : {B : Type 0} (cmp : Event B → Event B → Ordering) (n : ℕ) (nodes : List (Option (Entry B))) → nodes ≡ replicate (2 * n) None → IsTournament cmp n nodes
none_placed {B} cmp n nodes is = record {
  size = ap length is ∙ length-replicate (2 * n) (nobody {B = B});
  played = λ k above within. none k ∙ sym (ap (λ a. winner cmp a (node_at nodes (2 * k + 1))) (none (2 * k)) ∙ ap (winner cmp None) (none (2 * k + 1)));
  placed = λ place e within at. let never : None ≡ Some e = sym (none (n + place)) ∙ at in cc;
}
  where
    none : (k : ℕ) → node_at nodes k ≡ None
    none k = ap (λ ns. node_at ns k) is ∙ none_in (2 * n) k

pub none_left : {B : Type 0} (n : ℕ) (nodes : List (Option (Entry B))) → nodes ≡ replicate (2 * n) None → leaves n nodes ≡ replicate n None
none_left {B} n nodes is =
    let rest : 2 * n - n ≡ n = omega arith in
    ap (leaves n) is ∙ ap (map (option_map (λ (e : Entry B). e.event))) (drop-replicate n (2 * n) (nobody {B = B}) ∙ ap (λ m. replicate m None) rest) ∙ map-none (λ (e : Entry B). e.event) n

-- One place changes

-- the event, if there is one, at its place
abbrev pub placed_at : {B : Type 0} → ℕ → Option (Event B) → Option (Entry B)
placed_at place event = option_map (λ e. record { place = place; event = e }) event

abbrev pub written : {B : Type 0} → ℕ → List (Option (Entry B)) → ℕ → Option (Event B) → List (Option (Entry B))
written n nodes place event = slice_set nodes (n + place) (placed_at place event)

module _ {B : Type 0} {cmp : Event B → Event B → Ordering} (n : ℕ) (nodes : List (Option (Entry B))) (t : IsTournament cmp n nodes) (place : ℕ) (within : place < n) (event : Option (Event B)) where
  length-written : length (written n nodes place event) ≡ 2 * n
  length-written = length-set nodes (n + place) (placed_at place event) ∙ t.size

  -- all nodes but the one above what was written are played as before
  pub written_others : (k : ℕ) → 0 < k → 2 * k + 1 < length (written n nodes place event) → k ≢ (n + place) / 2 → IsPlayed cmp (written n nodes place event) k
  written_others k above low apart =
      let below : k < n = omega (arith, length-written) in
      stays cmp nodes (written n nodes place event) k (other k (omega arith)) (other (2 * k) (omega arith)) (other (2 * k + 1) (omega arith)) (t.played k above below)
    where
      other : (j : ℕ) → j ≢ n + place → node_at (written n nodes place event) j ≡ node_at nodes j
      other j d = get_or-set_other nodes (n + place) j (placed_at place event) None d

  module _ (after : List (Option (Entry B))) (long : length after ≡ length (written n nodes place event)) (played : (k : ℕ) → 0 < k → 2 * k + 1 < length (written n nodes place event) → IsPlayed cmp after k) (same : (k : ℕ) → length (written n nodes place event) ≤ 2 * k → node_at after k ≡ node_at (written n nodes place event) k) where
    here_placed : (e : Entry B) → (placed_at place event) ≡ Some e → e.place ≡ place
    here_placed e is = go event is
      where
        go : (o : Option (Event B)) → option_map (λ f. record { place = place; event = f }) o ≡ Some e → e.place ≡ place
        go None h = cc
        go (Some f) h = ap (λ d. d.place) (sym (same_Some (record { place = place; event = f }) e h))

    pub changed : IsTournament cmp n after
    changed = record {
      size = long ∙ length-written;
      played = λ k above low. played k above (omega (arith, length-written));
      placed = λ p e low is. go p e low is (cases_eq p place);
    }
      where
        go : (p : ℕ) (e : Entry B) → p < n → node_at after (n + p) ≡ Some e → (p ≡ place) ⊎ (p ≢ place) → e.place ≡ p
        go p e low is (inl eq) =
            let here : node_at (written n nodes place event) (n + p) ≡ (placed_at place event) = ap (λ q. node_at (written n nodes place event) (n + q)) eq ∙ get_or-set_same nodes (n + place) (placed_at place event) None (omega (arith, t.size)) in
            here_placed e (sym here ∙ sym (same (n + p) (omega (arith, length-written))) ∙ is) ∙ sym eq
        go p e low is (inr d) = t.placed p e low (sym (get_or-set_other nodes (n + place) (n + p) (placed_at place event) None (omega arith)) ∙ sym (same (n + p) (omega (arith, length-written))) ∙ is)

    event_is : option_map (λ (e : Entry B). e.event) (placed_at place event) ≡ event
    event_is = go event
      where
        go : (o : Option (Event B)) → option_map (λ (e : Entry B). e.event) (option_map (λ f. record { place = place; event = f }) o) ≡ o
        go None = refl
        go (Some f) = refl

    same_places : drop n after ≡ drop n (written n nodes place event)
    same_places =
        ext_get_or None (drop n after) (drop n (written n nodes place event)) (length-drop n after ∙ ap (λ m. m - n) long ∙ sym (length-drop n (written n nodes place event)))
        (λ i low. get_or-drop n after i None ∙ same (n + i) (omega (arith, length-written, length-drop n after)) ∙ sym (get_or-drop n (written n nodes place event) i None))

    pub changed_leaves : leaves n after ≡ slice_set (leaves n nodes) place event
    changed_leaves =
        ap (map (option_map (λ (e : Entry B). e.event))) (same_places ∙ drop-set-add n nodes place (placed_at place event))
        ∙ map-set (option_map (λ (e : Entry B). e.event)) (drop n nodes) place (placed_at place event)
        ∙ ap (slice_set (leaves n nodes) place) event_is

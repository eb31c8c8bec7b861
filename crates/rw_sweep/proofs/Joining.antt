-- The parts of a sweep make the sweep.
use Rattle.std.proofs.Common.{◌≡◌, ℕ, zero, suc, ◌+◌, ◌%◌, ◌<◌, ◌≤◌, ◌==◌, Bool, true, false, cond, List, [], ◌∷◌, ◌++◌, length, map, get_or, Ok, refl, sym, ap, subst, ◌∙◌, arith, All, append-nil, eq-eqb}
use Rattle.std.specs.List.{AllZip, concat, enumerate_from, filter, flat_map, range_with_len}
use Rattle.std.proofs.lemmas.Bool.{eqb-false, eqb-true, ne_eqb}
use Rattle.std.proofs.lemmas.Grind.{flat_map-append}
use Rattle.std.proofs.lemmas.List.{map-append}
use Rattle.std.proofs.lemmas.List.Elements.{All-append, All-cons, All-filter, All-head, All-map, All-nil, All-tail, All-weaker, filter-append, filter_passes}
use Rattle.rw_vt.specs.Words.{Position}
use Rattle.rw_trace.specs.declared.Row.{Row}
use Rattle.rw_trace.specs.Limits.{most_rows}
use Rattle.rw_trace.specs.Trace.{trace_of}
use Rattle.rw_trace.specs.Unread.{records_of}
use Rattle.rw_ripq.specs.declared.Policy.TheVariants.{Off}
use Rattle.rw_sweep.specs.declared.axes.Axes.{Axes}
use Rattle.rw_sweep.specs.declared.choice.Choice.{Choice}
use Rattle.rw_sweep.specs.Grids.{combinations, least_edges}
use Rattle.rw_sweep.proofs.WholeLines.{whole-lines}
use Rattle.rw_sweep.specs.Joining.{IsLine, PartsMakeTheSweep, PlacedLine, lines_of_all, lines_of_place, part_with}
use Rattle.rw_sweep.specs.Parts.{AreLinesOfPlaced, IsPartSweepOf, LinesAt, dealt, is_in_part, part_header, placed_line}
use Rattle.rw_sweep.specs.Sweep.{AreLinesOfChoice}
use Rattle.rw_sweep.specs.Table.{header_line}

-- the lines of a configuration, each beside its place
abbrev each_placed : Position → List (List ℕ) → List PlacedLine
each_placed place lines = map (λ line. record { place = place; line = line }) lines

abbrev all_placed : List LinesAt → List PlacedLine
all_placed ls = flat_map (λ l. each_placed l.place l.lines) ls

-- ---- the text of lines

text-placed : (place : Position) (lines : List (List ℕ)) → flat_map (placed_line place) lines ≡ flat_map (λ l. placed_line l.place l.line) (each_placed place lines)
text-placed place [] = refl
text-placed place (x ∷ xs) = ap (λ t. placed_line place x ++ t) (text-placed place xs)

text-all-placed : (ls : List LinesAt) → flat_map (λ l. flat_map (placed_line l.place) l.lines) ls ≡ flat_map (λ l. placed_line l.place l.line) (all_placed ls)
text-all-placed [] = refl
text-all-placed (x ∷ xs) =
    (λ i. text-placed x.place x.lines i ++ text-all-placed xs i)
    ∙ sym (flat_map-append (λ l. placed_line l.place l.line) (each_placed x.place x.lines) (all_placed xs))

-- ---- the lines of a place

lines-append : (xs ys : List PlacedLine) (k : Position) → lines_of_place (xs ++ ys) k ≡ lines_of_place xs k ++ lines_of_place ys k
lines-append xs ys k =
    let here : PlacedLine → Bool = λ l. l.place == k in
    ap (map (λ l. l.line)) (filter-append here xs ys) ∙ map-append (λ l. l.line) (filter here xs) (filter here ys)

lines-here : (k : Position) (lines : List (List ℕ)) → lines_of_place (each_placed k lines) k ≡ lines
lines-here k [] = refl
lines-here k (x ∷ xs) =
    ap (λ b. map (λ l. l.line) (cond b (record { place = k; line = x } ∷ filter (λ l. l.place == k) (each_placed k xs)) (filter (λ l. l.place == k) (each_placed k xs)))) (eq-eqb k k refl)
    ∙ ap (λ ls. x ∷ ls) (lines-here k xs)

lines-elsewhere : (place k : Position) (lines : List (List ℕ)) → (place ≡ k → ⊥) → lines_of_place (each_placed place lines) k ≡ []
lines-elsewhere place k [] other = refl
lines-elsewhere place k (x ∷ xs) other =
    ap (λ b. map (λ l. l.line) (cond b (record { place = place; line = x } ∷ filter (λ l. l.place == k) (each_placed place xs)) (filter (λ l. l.place == k) (each_placed place xs)))) (ne_eqb place k other)
    ∙ lines-elsewhere place k xs other

module _ (a : Axes) (rows : List Row) where
  abbrev Each : List (Position × Choice) → List LinesAt → Type 0
  Each ats ls = AllZip (AreLinesOfPlaced a rows) ats ls

  -- a place that none of them has
  nothing-at : (k : Position) (ats : List (Position × Choice)) (ls : List LinesAt) → Each ats ls → All (λ at. at.0 ≡ k → ⊥) ats → lines_of_place (all_placed ls) k ≡ []
  nothing-at k [] [] each none = refl
  nothing-at k [] (y ∷ ys) each none = absurd each
  nothing-at k (x ∷ xs) [] each none = absurd each
  nothing-at k (x ∷ xs) (y ∷ ys) each none =
      let other : y.place ≡ k → ⊥ = λ e. All-head (λ at. at.0 ≡ k → ⊥) x xs none (sym each.0.place_is ∙ e) in
      lines-append (each_placed y.place y.lines) (all_placed ys) k
      ∙ (λ i. lines-elsewhere y.place k y.lines other i ++ nothing-at k xs ys each.1 (All-tail (λ at. at.0 ≡ k → ⊥) x xs none) i)

  from-on : (m : ℕ) (xs : List Choice) → All (λ at. m ≤ at.0) (enumerate_from m xs)
  from-on m [] = All-nil (λ at. m ≤ at.0)
  from-on m (x ∷ xs) =
      All-cons (λ at. m ≤ at.0) (m, x) (enumerate_from (m + 1) xs) (omega arith)
      (All-weaker (λ at. m + 1 ≤ at.0) (λ at. m ≤ at.0) (λ at l. omega arith) (enumerate_from (m + 1) xs) (from-on (m + 1) xs))

  module _ (own : Position → Bool) where
    abbrev owned : ℕ → List Choice → List (Position × Choice)
    owned m xs = filter (λ at. own at.0) (enumerate_from m xs)

    none-before : (k m : ℕ) (xs : List Choice) → k < m → All (λ at. at.0 ≡ k → ⊥) (owned m xs)
    none-before k m xs l =
        All-filter (λ at. own at.0) (λ at. at.0 ≡ k → ⊥) (enumerate_from m xs)
        (All-weaker (λ at. m ≤ at.0) (λ at. at.0 ≡ k → ⊥) (λ at h e. omega arith) (enumerate_from m xs) (from-on m xs))

    none-of-others : (k m : ℕ) (xs : List Choice) → own k ≡ false → All (λ at. at.0 ≡ k → ⊥) (owned m xs)
    none-of-others k m xs not_own =
        All-weaker (λ at. own at.0 ≡ true) (λ at. at.0 ≡ k → ⊥) (λ at is e. both (ap own (sym e) ∙ is)) (owned m xs) (filter_passes (λ at. own at.0) (enumerate_from m xs))
      where
        both : own k ≡ true → ⊥
        both is = let bad : true ≡ false = sym is ∙ not_own in cc

    -- the place of one of them
    lines-at : (k m i : ℕ) (d : Choice) (xs : List Choice) (ls : List LinesAt) → Each (owned m xs) ls → k ≡ m + i → i < length xs → own k ≡ true
        → AreLinesOfChoice a rows (get_or xs i d) (lines_of_place (all_placed ls) k)
    lines-at k m i d [] ls each at l is = absurd (omega arith)
    lines-at k m zero d (x ∷ xs) ls each at l is = first (own m) ls (ap own (sym (at ∙ none m)) ∙ is) each
      where
        none : (n : ℕ) → n + 0 ≡ n
        none n = omega arith

        here : k ≡ m
        here = at ∙ none m

        first : (b : Bool) (ls : List LinesAt) → b ≡ true → Each (cond b ((m, x) ∷ owned (m + 1) xs) (owned (m + 1) xs)) ls → AreLinesOfChoice a rows x (lines_of_place (all_placed ls) k)
        first true [] e each = absurd each
        first true (y ∷ ys) e each =
            let place : y.place ≡ k = each.0.place_is ∙ sym here in
            let own_lines : lines_of_place (each_placed y.place y.lines) k ≡ y.lines = ap (λ p. lines_of_place (each_placed p y.lines) k) place ∙ lines-here k y.lines in
            let rest : lines_of_place (all_placed ys) k ≡ [] = nothing-at k (owned (m + 1) xs) ys each.1 (none-before k (m + 1) xs (omega arith)) in
            let all : lines_of_place (all_placed (y ∷ ys)) k ≡ y.lines = lines-append (each_placed y.place y.lines) (all_placed ys) k ∙ ((λ i. own_lines i ++ rest i) ∙ append-nil y.lines) in
            subst (AreLinesOfChoice a rows x) (sym all) each.0.tell
        first false ls e each = let bad : false ≡ true = e in absurd (cc)
    lines-at k m (suc i) d (x ∷ xs) ls each at l is =
        later (λ ys rest. lines-at k (m + 1) i d xs ys rest (omega arith) (omega arith) is) (own m) ls each
      where
        later : ((ys : List LinesAt) → Each (owned (m + 1) xs) ys → AreLinesOfChoice a rows (get_or xs i d) (lines_of_place (all_placed ys) k))
            → (b : Bool) (ls : List LinesAt) → Each (cond b ((m, x) ∷ owned (m + 1) xs) (owned (m + 1) xs)) ls → AreLinesOfChoice a rows (get_or xs i d) (lines_of_place (all_placed ls) k)
        later go true [] each = absurd each
        later go true (y ∷ ys) each =
            let other : y.place ≡ k → ⊥ = λ e. let same : m ≡ k = sym each.0.place_is ∙ e in omega arith in
            let all : lines_of_place (all_placed (y ∷ ys)) k ≡ lines_of_place (all_placed ys) k =
            lines-append (each_placed y.place y.lines) (all_placed ys) k ∙ ap (λ ls. ls ++ lines_of_place (all_placed ys) k) (lines-elsewhere y.place k y.lines other) in
            subst (AreLinesOfChoice a rows (get_or xs i d)) (sym all) (go ys each.1)
        later go false ls each = go ls each

  -- ---- the lines of all parts

  module _ (count : ℕ) where
    abbrev EachPart : List ℕ → List (List LinesAt) → Type 0
    EachPart indices parts = AllZip (λ index ls. Each (dealt index count (combinations a)) ls) indices parts

    abbrev all_of : List (List LinesAt) → List PlacedLine
    all_of parts = lines_of_all (map all_placed parts)

    other-part : (index k : ℕ) → (index ≡ k % count → ⊥) → is_in_part index count k ≡ false
    other-part index k other = ne_eqb (k % count) index (λ e. other (sym e))

    nothing-in : (k : ℕ) (indices : List ℕ) (parts : List (List LinesAt)) → EachPart indices parts → filter (λ j. j == k % count) indices ≡ [] → lines_of_place (all_of parts) k ≡ []
    nothing-in k [] [] each none = refl
    nothing-in k [] (y ∷ ys) each none = absurd each
    nothing-in k (x ∷ xs) [] each none = absurd each
    nothing-in k (x ∷ xs) (y ∷ ys) each none = by (nothing-in k xs ys each.1) (x == k % count) refl none
      where
        by : (filter (λ j. j == k % count) xs ≡ [] → lines_of_place (all_of ys) k ≡ []) → (b : Bool) → (x == k % count) ≡ b
            → cond b (x ∷ filter (λ j. j == k % count) xs) (filter (λ j. j == k % count) xs) ≡ [] → lines_of_place (all_of (y ∷ ys)) k ≡ []
        by go true e bad = absurd (cc)
        by go false e none =
            let head = nothing-at k (dealt x count (combinations a)) y each.0 (none-of-others (is_in_part x count) k 0 (combinations a) (other-part x k (eqb-false x (k % count) e))) in
            lines-append (all_placed y) (all_of ys) k ∙ (λ i. head i ++ go none i)

    lines-in : (k : ℕ) (d : Choice) (indices : List ℕ) (parts : List (List LinesAt)) → EachPart indices parts → filter (λ j. j == k % count) indices ≡ k % count ∷ [] → k < length (combinations a)
        → AreLinesOfChoice a rows (get_or (combinations a) k d) (lines_of_place (all_of parts) k)
    lines-in k d [] [] each once l = absurd (cc)
    lines-in k d [] (y ∷ ys) each once l = absurd each
    lines-in k d (x ∷ xs) [] each once l = absurd each
    lines-in k d (x ∷ xs) (y ∷ ys) each once l = by (λ more. lines-in k d xs ys each.1 more l) (x == k % count) refl once
      where
        by : (filter (λ j. j == k % count) xs ≡ k % count ∷ [] → AreLinesOfChoice a rows (get_or (combinations a) k d) (lines_of_place (all_of ys) k))
            → (b : Bool) → (x == k % count) ≡ b → cond b (x ∷ filter (λ j. j == k % count) xs) (filter (λ j. j == k % count) xs) ≡ k % count ∷ []
            → AreLinesOfChoice a rows (get_or (combinations a) k d) (lines_of_place (all_of (y ∷ ys)) k)
        by go true e once =
            let no_more : filter (λ j. j == k % count) xs ≡ [] = cc in
            let rest = nothing-in k xs ys each.1 no_more in
            let here : is_in_part x count k ≡ true = eq-eqb (k % count) x (sym (eqb-true x (k % count) e)) in
            let at : k ≡ 0 + k = omega arith in
            let all : lines_of_place (all_of (y ∷ ys)) k ≡ lines_of_place (all_placed y) k =
            lines-append (all_placed y) (all_of ys) k ∙ (ap (λ ls. lines_of_place (all_placed y) k ++ ls) rest ∙ append-nil (lines_of_place (all_placed y) k)) in
            subst (AreLinesOfChoice a rows (get_or (combinations a) k d)) (sym all) (lines-at (is_in_part x count) k 0 k d (combinations a) y each.0 at l here)
        by go false e once =
            let head = nothing-at k (dealt x count (combinations a)) y each.0 (none-of-others (is_in_part x count) k 0 (combinations a) (other-part x k (eqb-false x (k % count) e))) in
            let all : lines_of_place (all_of (y ∷ ys)) k ≡ lines_of_place (all_of ys) k =
            lines-append (all_placed y) (all_of ys) k ∙ ap (λ ls. ls ++ lines_of_place (all_of ys) k) head in
            subst (AreLinesOfChoice a rows (get_or (combinations a) k d)) (sym all) (go once)

    -- places are those of the configurations
    below : (m : ℕ) (xs : List Choice) → All (λ at. at.0 < m + length xs) (enumerate_from m xs)
    below m [] = All-nil (λ at. at.0 < m + length {A = Choice} [])
    below m (x ∷ xs) =
        All-cons (λ at. at.0 < m + suc (length xs)) (m, x) (enumerate_from (m + 1) xs) (omega arith)
        (All-weaker (λ at. at.0 < m + 1 + length xs) (λ at. at.0 < m + suc (length xs)) (λ at l. omega arith) (enumerate_from (m + 1) xs) (below (m + 1) xs))

    placed-below : (n : ℕ) (ats : List (Position × Choice)) (ls : List LinesAt) → Each ats ls → All (λ at. at.0 < n) ats → All (λ l. l.place < n) (all_placed ls)
    placed-below n [] [] each l = All-nil (λ l. l.place < n)
    placed-below n [] (y ∷ ys) each l = absurd each
    placed-below n (x ∷ xs) [] each l = absurd each
    placed-below n (x ∷ xs) (y ∷ ys) each l =
        let here : y.place < n = subst (λ p. p < n) (sym each.0.place_is) (All-head (λ at. at.0 < n) x xs l) in
        All-append (λ l. l.place < n) (each_placed y.place y.lines) (all_placed ys) (same y.place y.lines here) (placed-below n xs ys each.1 (All-tail (λ at. at.0 < n) x xs l))
      where
        same : (place : Position) (lines : List (List ℕ)) → place < n → All (λ l. l.place < n) (each_placed place lines)
        same place [] l = All-nil (λ l. l.place < n)
        same place (z ∷ zs) l = All-cons (λ l. l.place < n) (record { place = place; line = z }) (each_placed place zs) l (same place zs l)

    all-below : (indices : List ℕ) (parts : List (List LinesAt)) → EachPart indices parts → All (λ l. l.place < length (combinations a)) (all_of parts)
    all-below [] [] each = All-nil (λ l. l.place < length (combinations a))
    all-below [] (y ∷ ys) each = absurd each
    all-below (x ∷ xs) [] each = absurd each
    all-below (x ∷ xs) (y ∷ ys) each =
        let n = length (combinations a) in
        let start : (k : ℕ) → k < 0 + n → k < n = λ k l. omega arith in
        let within = All-weaker (λ at. at.0 < 0 + n) (λ at. at.0 < n) (λ at l. start at.0 l) (enumerate_from 0 (combinations a)) (below 0 (combinations a)) in
        All-append (λ l. l.place < n) (all_placed y) (all_of ys)
        (placed-below n (dealt x count (combinations a)) y each.0 (All-filter (λ at. is_in_part x count at.0) (λ at. at.0 < n) (enumerate_from 0 (combinations a)) within))
        (all-below xs ys each.1)

    placed-whole : (ats : List (Position × Choice)) (ls : List LinesAt) → Each ats ls → All (λ l. IsLine l.line) (all_placed ls)
    placed-whole [] [] each = All-nil (λ l. IsLine l.line)
    placed-whole [] (y ∷ ys) each = absurd each
    placed-whole (x ∷ xs) [] each = absurd each
    placed-whole (x ∷ xs) (y ∷ ys) each =
        let tell = each.0.tell in
        All-append (λ l. IsLine l.line) (each_placed y.place y.lines) (all_placed ys)
        (All-map (λ l. IsLine l.line) (λ line. record { place = y.place; line = line }) y.lines (whole-lines tell.config x.1 a.ticks_a_second rows y.lines tell.tells)) (placed-whole xs ys each.1)

    all-whole : (indices : List ℕ) (parts : List (List LinesAt)) → EachPart indices parts → All (λ l. IsLine l.line) (all_of parts)
    all-whole [] [] each = All-nil (λ l. IsLine l.line)
    all-whole [] (y ∷ ys) each = absurd each
    all-whole (x ∷ xs) [] each = absurd each
    all-whole (x ∷ xs) (y ∷ ys) each = All-append (λ l. IsLine l.line) (all_placed y) (all_of ys) (placed-whole (dealt x count (combinations a)) y each.0) (all-whole xs ys each.1)

    -- what the texts of parts say, of the rows of one of them
    record Read (bytes : List ℕ) (indices : List ℕ) (texts : List (List ℕ)) : Type 0 where
      parts : List (List LinesAt)
      each : EachPart indices parts
      have : AllZip (λ text ls. text ≡ part_with ls) texts (map all_placed parts)

    same-rows : (bytes : List ℕ) (more : List Row) → trace_of (least_edges a) most_rows (records_of bytes) ≡ Ok rows → trace_of (least_edges a) most_rows (records_of bytes) ≡ Ok more → more ≡ rows
    same-rows bytes more one other = let same : Ok more ≡ Ok rows = sym other ∙ one in cc

    read-all : (bytes : List ℕ) (indices : List ℕ) (texts : List (List ℕ)) → trace_of (least_edges a) most_rows (records_of bytes) ≡ Ok rows
        → AllZip (λ index text. IsPartSweepOf a index count bytes text) indices texts → Read bytes indices texts
    read-all bytes [] [] accepted each = record { parts = []; each = tt; have = tt }
    read-all bytes [] (y ∷ ys) accepted each = absurd each
    read-all bytes (x ∷ xs) [] accepted each = absurd each
    read-all bytes (x ∷ xs) (y ∷ ys) accepted each =
        let rest = read-all bytes xs ys accepted each.1 in
        record {
          parts = each.0.lines ∷ rest.parts;
          each = (subst (λ rs. AllZip (AreLinesOfPlaced a rs) (dealt x count (combinations a)) each.0.lines) (same-rows bytes each.0.rows accepted each.0.accepted) each.0.each, rest.each);
          have = (each.0.told ∙ ap (λ t. part_header ++ t) (text-all-placed each.0.lines), rest.have);
        }

-- ---- the sweep

zip-from : {A B : Type 0} (R : A → B → Type 0) (f : ℕ → B) (m : ℕ) (xs : List A) → ((i : ℕ) (d : A) → i < length xs → R (get_or xs i d) (f (m + i))) → AllZip R xs (map f (range_with_len m (length xs)))
zip-from R f m [] each = tt
zip-from R f m (x ∷ xs) each =
    let none : m + 0 ≡ m = omega arith in
    let next : (i : ℕ) → m + suc i ≡ m + 1 + i = λ i. omega arith in
    (subst (λ n. R x (f n)) none (each 0 x (omega arith)), zip-from R f (m + 1) xs (λ i d l. subst (λ n. R (get_or xs i d) (f n)) (next i) (each (suc i) d (omega arith))))

of-each : (f : ℕ → List (List ℕ)) (ks : List ℕ) → flat_map (λ k. concat (f k)) ks ≡ flat_map concat (map f ks)
of-each f [] = refl
of-each f (k ∷ ks) = ap (λ t. concat (f k) ++ t) (of-each f ks)

abbrev nothing : List ℕ
nothing = []

pub parts-make-the-sweep : PartsMakeTheSweep
parts-make-the-sweep a bytes count [] texts some once each = absurd (none (once 0 some))
  where
    none : nothing ≡ 0 ∷ nothing → ⊥
    none bad = cc
parts-make-the-sweep a bytes count (x ∷ xs) [] some once each = absurd each
parts-make-the-sweep a bytes count (x ∷ xs) (y ∷ ys) some once each =
    let rows : List Row = each.0.rows in
    let n : ℕ = length (combinations a) in
    let read = read-all a rows count bytes (x ∷ xs) (y ∷ ys) each.0.accepted each in
    let parts : List (List PlacedLine) = map all_placed read.parts in
    let at : ℕ → List (List ℕ) = lines_of_place (lines_of_all parts) in
    let rest : (k : ℕ) → k % count < count = λ k. omega arith in
    let tell : (k : ℕ) (d : Choice) → k < n → AreLinesOfChoice a rows (get_or (combinations a) k d) (at k) = λ k d l. lines-in a rows count k d (x ∷ xs) read.parts read.each (once (k % count) (rest k)) l in
    let numbered : (k : ℕ) (d : Choice) → k < n → AreLinesOfChoice a rows (get_or (combinations a) k d) (at (0 + k)) =
    λ k d l. let same : k ≡ 0 + k = omega arith in subst (λ m. AreLinesOfChoice a rows (get_or (combinations a) k d) (at m)) same (tell k d l) in
    record {
      parts = parts;
      have = read.have;
      whole = all-whole a rows count (x ∷ xs) read.parts read.each;
      within = all-below a rows count (x ∷ xs) read.parts read.each;
      three = λ k l. ap length (tell k (record { policy = Off; sections = 0; block = 0; edge_blocks = 0; origin_blocks = 0; edges = 0; origins = 0; up = 0; down = 0; back = 0 }) l).tells.told;
      are = record {
        rows = rows;
        lines = map at (range_with_len 0 n);
        accepted = each.0.accepted;
        each = zip-from (AreLinesOfChoice a rows) at 0 (combinations a) numbered;
        told = ap (λ t. header_line ++ t) (of-each at (range_with_len 0 n));
      };
    }

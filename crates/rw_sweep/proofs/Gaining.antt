-- Slots that gain lines.
use Rattle.std.proofs.Common.{◌≡◌, ℕ, ◌+◌, ◌<◌, ◌≤◌, ◌==◌, ◌⊎◌, inl, inr, Bool, cond, List, [], ◌∷◌, ◌++◌, length, map, get_or, set, refl, sym, ap, subst, ◌∙◌, arith, max, All, append_assoc, append-nil, length-append, eq-eqb}
use Rattle.std.specs.List.{concat, filter}
use Rattle.std.proofs.lemmas.Bool.{cases_eq, cases_lt, ne_eqb}
use Rattle.std.proofs.lemmas.List.{map-append, get_or_append_left, get_or-set_same, get_or-set_other, length-set}
use Rattle.std.proofs.lemmas.List.Elements.{All-append, All-cons, All-head, All-nil, All-tail, All-weaker, filter-append}
use Rattle.rw_vt.specs.Words.{Position}
use Rattle.rw_sweep.specs.Joining.{PlacedLine, lines_of_place}
use Rattle.rw_sweep.specs.declared.joiner.slots.Slot.{Slot}
use Rattle.rw_sweep.specs.JoinFaults.{places_of}
use Rattle.rw_sweep.specs.JoinSlots.{AreSlotsOf, HaveGained, HaveGrown, IsSlotOf, OfHeld}

pub lines-append : (xs ys : List PlacedLine) (k : Position) → lines_of_place (xs ++ ys) k ≡ lines_of_place xs k ++ lines_of_place ys k
lines-append xs ys k =
    let here : PlacedLine → Bool = λ l. l.place == k in
    ap (map (λ l. l.line)) (filter-append here xs ys) ∙ map-append (λ l. l.line) (filter here xs) (filter here ys)

-- a place above all of them
pub none-above : (n k : ℕ) (ls : List PlacedLine) → All (λ l. l.place < n) ls → n ≤ k → lines_of_place ls k ≡ []
none-above n k [] within above = refl
none-above n k (x ∷ xs) within above =
    let here : x.place < n = All-head (λ l. l.place < n) x xs within in
    let other : x.place ≡ k → ⊥ = λ e. omega arith in
    ap (λ b. map (λ l. l.line) (cond b (x ∷ filter (λ l. l.place == k) xs) (filter (λ l. l.place == k) xs))) (ne_eqb x.place k other)
    ∙ none-above n k xs (All-tail (λ l. l.place < n) x xs within) above

pub one-here : (place : Position) (line : List ℕ) → lines_of_place (record { place = place; line = line } ∷ []) place ≡ line ∷ []
one-here place line = ap (λ b. map (λ (l : PlacedLine). l.line) (cond b (record { place = place; line = line } ∷ []) [])) (eq-eqb place place refl)

pub one-elsewhere : (place k : Position) (line : List ℕ) → (place ≡ k → ⊥) → lines_of_place (record { place = place; line = line } ∷ []) k ≡ []
one-elsewhere place k line other = ap (λ b. map (λ (l : PlacedLine). l.line) (cond b (record { place = place; line = line } ∷ []) [])) (ne_eqb place k other)

pub concat-more : (texts : List (List ℕ)) (text : List ℕ) → concat texts ++ text ≡ concat (texts ++ text ∷ [])
concat-more [] text = sym (append-nil text)
concat-more (x ∷ xs) text = append_assoc x (concat xs) text ∙ ap (λ t. x ++ t) (concat-more xs text)

-- nothing is gained by nothing
pub gained-nothing : (slots : List Slot) → HaveGained [] slots slots
gained-nothing slots ls are = subst (λ all. AreSlotsOf all slots) (sym (append-nil ls)) are

-- one gain after another
pub gained-then : (xs ys : List PlacedLine) (one two three : List Slot) → HaveGained xs one two → HaveGained ys two three → HaveGained (xs ++ ys) one three
gained-then xs ys one two three first second ls are = subst (λ all. AreSlotsOf all three) (append_assoc ls xs ys) (second (ls ++ xs) (first ls are))

-- a slot more, with nothing in it
pub empty-more : (slots : List Slot) (slot : Slot) → slot.count ≡ 0 → slot.text.items ≡ [] → HaveGained [] slots (slots ++ slot ∷ [])
empty-more slots slot none nothing ls are =
    let n : ℕ = length slots in
    let longer : length (slots ++ slot ∷ []) ≡ n + 1 = length-append slots (slot ∷ []) in
    let same : ls ++ [] ≡ ls = append-nil ls in
    let within : All (λ l. l.place < length (slots ++ slot ∷ [])) ls = All-weaker (λ l. l.place < n) (λ l. l.place < length (slots ++ slot ∷ [])) (λ l h. omega (arith, longer, h)) ls are.within in
    let at : (k : Position) (d : Slot) → k < length (slots ++ slot ∷ []) → (k < n) ⊎ (n ≤ k) → IsSlotOf (lines_of_place ls k) (get_or (slots ++ slot ∷ []) k d) =
    λ k d l which. elim which [
      | inl before ↦ subst (IsSlotOf (lines_of_place ls k)) (sym (get_or_append_left slots (slot ∷ []) d k before)) (are.each k d before)
      | inr last ↦
          let here : k ≡ n = omega (arith, longer, l, last) in
          let is : get_or (slots ++ slot ∷ []) k d ≡ slot = ap (λ m. get_or (slots ++ slot ∷ []) m d) here ∙ get_or-push slots slot d in
          let empty : lines_of_place ls k ≡ [] = none-above n k ls are.within last in
          subst (IsSlotOf (lines_of_place ls k)) (sym is) (record { many = none ∙ ap length (sym empty); told = nothing ∙ ap concat (sym empty) })
    ] in
    subst (λ all. AreSlotsOf all (slots ++ slot ∷ [])) (sym same) (record { within = within; few = are.few; each = λ k d l. at k d l (cases_lt k n) })
  where
    get_or-push : (xs : List Slot) (x d : Slot) → get_or (xs ++ x ∷ []) (length xs) d ≡ x
    get_or-push [] x d = refl
    get_or-push (y ∷ ys) x d = get_or-push ys x d

-- a line more in the slot of its place
pub line-more : (slots : List Slot) (place : Position) (line : List ℕ) (old new : Slot) → place < length slots → old ≡ get_or slots place old → old.count < 3 → new.count ≡ old.count + 1
    → new.text.items ≡ old.text.items ++ line → HaveGained (record { place = place; line = line } ∷ []) slots (set slots place new)
line-more slots place line old new inside is small many told ls are =
    let one : PlacedLine = record { place = place; line = line } in
    let as_long : length (set slots place new) ≡ length slots = length-set slots place new in
    let at : (k : Position) (d : Slot) → k < length slots → (k ≡ place) ⊎ (k ≡ place → ⊥) → IsSlotOf (lines_of_place (ls ++ one ∷ []) k) (get_or (set slots place new) k d) =
    λ k d l which. elim which [
      | inl here ↦
          let was : IsSlotOf (lines_of_place ls place) old = subst (IsSlotOf (lines_of_place ls place)) (sym is) (are.each place old inside) in
          let lines : lines_of_place (ls ++ one ∷ []) place ≡ lines_of_place ls place ++ line ∷ [] = lines-append ls (one ∷ []) place ∙ ap (λ t. lines_of_place ls place ++ t) (one-here place line) in
          let grown : IsSlotOf (lines_of_place (ls ++ one ∷ []) place) new = record {
            many = many ∙ (ap (λ n. n + 1) was.many ∙ (sym (length-append (lines_of_place ls place) (line ∷ [])) ∙ ap length (sym lines)));
            told = told ∙ (ap (λ t. t ++ line) was.told ∙ (concat-more (lines_of_place ls place) line ∙ ap concat (sym lines)));
          } in
          subst (λ j. IsSlotOf (lines_of_place (ls ++ one ∷ []) j) (get_or (set slots place new) j d)) (sym here)
          (subst (IsSlotOf (lines_of_place (ls ++ one ∷ []) place)) (sym (get_or-set_same slots place new d inside)) grown)
      | inr other ↦
          let lines : lines_of_place (ls ++ one ∷ []) k ≡ lines_of_place ls k =
          lines-append ls (one ∷ []) k ∙ (ap (λ t. lines_of_place ls k ++ t) (one-elsewhere place k line (λ e. other (sym e))) ∙ append-nil (lines_of_place ls k)) in
          subst (λ t. IsSlotOf t (get_or (set slots place new) k d)) (sym lines)
          (subst (IsSlotOf (lines_of_place ls k)) (sym (get_or-set_other slots place k new d other)) (are.each k d l))
    ] in
    let count : (k : Position) → (k ≡ place) ⊎ (k ≡ place → ⊥) → length (lines_of_place (ls ++ one ∷ []) k) ≤ 3 =
    λ k which. elim which [
      | inl here ↦
          let was : IsSlotOf (lines_of_place ls place) old = subst (IsSlotOf (lines_of_place ls place)) (sym is) (are.each place old inside) in
          let lines : lines_of_place (ls ++ one ∷ []) place ≡ lines_of_place ls place ++ line ∷ [] = lines-append ls (one ∷ []) place ∙ ap (λ t. lines_of_place ls place ++ t) (one-here place line) in
          let more : length (lines_of_place (ls ++ one ∷ []) place) ≡ length (lines_of_place ls place) + 1 = ap length lines ∙ length-append (lines_of_place ls place) (line ∷ []) in
          subst (λ j. length (lines_of_place (ls ++ one ∷ []) j) ≤ 3) (sym here) (omega (arith, was.many, more, small))
      | inr other ↦
          let lines : lines_of_place (ls ++ one ∷ []) k ≡ lines_of_place ls k =
          lines-append ls (one ∷ []) k ∙ (ap (λ t. lines_of_place ls k ++ t) (one-elsewhere place k line (λ e. other (sym e))) ∙ append-nil (lines_of_place ls k)) in
          subst (λ t. length t ≤ 3) (sym lines) (are.few k)
    ] in
    record {
      few = λ k. count k (cases_eq k place);
      within = All-append (λ l. l.place < length (set slots place new)) ls (one ∷ []) (subst (λ n. All (λ l. l.place < n) ls) (sym as_long) are.within)
          (All-cons (λ l. l.place < length (set slots place new)) one [] (subst (λ n. place < n) (sym as_long) inside) (All-nil (λ l. l.place < length (set slots place new))));
      each = λ k d l. at k d (subst (λ n. k < n) as_long l) (cases_eq k place);
    }

-- a slot of three lines holds three
pub three-held : (old slots : List Slot) (place : Position) (slot : Slot) → HaveGained [] old slots → place < length slots → slot ≡ get_or slots place slot → 3 ≤ slot.count
    → OfHeld old (λ ls. length (lines_of_place ls place) ≡ 3)
three-held old slots place slot gained inside is three ls are =
    let now : AreSlotsOf ls slots = subst (λ all. AreSlotsOf all slots) (append-nil ls) (gained ls are) in
    let was : IsSlotOf (lines_of_place ls place) slot = subst (IsSlotOf (lines_of_place ls place)) (sym is) (now.each place slot inside) in
    omega (arith, was.many, now.few place, three)

pub places-append : (xs ys : List PlacedLine) → places_of (xs ++ ys) ≡ max (places_of xs) (places_of ys)
places-append [] ys = omega arith
places-append (x ∷ xs) ys = omega (arith, places-append xs ys)

-- slots for nothing more
pub grown-nothing : (slots : List Slot) → HaveGrown [] slots slots
grown-nothing slots = omega arith

-- slots for some lines, and then for others
pub grown-then : (xs ys : List PlacedLine) (one two three : List Slot) → HaveGrown xs one two → HaveGrown ys two three → HaveGrown (xs ++ ys) one three
grown-then xs ys one two three first second = omega (arith, first, second, places-append xs ys)

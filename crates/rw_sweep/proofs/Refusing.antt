-- What is first wrong with some parts, by what was read of them.
use Rattle.std.proofs.Common.{◌≡◌, ◌⊎◌, ℕ, suc, eqb, false, ◌+◌, ◌<◌, ◌≤◌, inl, inr, List, [], ◌∷◌, ◌++◌, length, map, drop, take, get_or, Option, None, Some, Result, Ok, Err, refl, sym, ap, subst, ◌∙◌, arith, All}
use Rattle.std.specs.Prelude.{◌≢◌, IfErr, IfSome}
use Rattle.std.proofs.lemmas.Bool.{cases_lt, false≢true}
use Rattle.std.proofs.lemmas.List.{get_or-take, get_or_default, length-map, length-take-le, map-append, take-append-drop}
use Rattle.std.proofs.Math.Seq.{drop-cons}
use Rattle.rw_vt.specs.Words.{Count, Position}
use Rattle.rw_sweep.specs.Joining.{PlacedLine, lines_of_all, lines_of_place}
use Rattle.rw_sweep.specs.Parts.{part_header, placed_line}
use Rattle.rw_sweep.specs.declared.joiner.join_fault.JoinFault.{JoinFault}
use Rattle.rw_sweep.specs.declared.joiner.join_fault.JoinFault.TheVariants as fault
use Rattle.rw_sweep.specs.declared.joiner.slots.Slot.{Slot}
use Rattle.rw_sweep.specs.JoinFaults.{AreReadAs, HasFaultyLine, IsFaultOfPart, IsFaultOfPlaces, IsFirstFaultyPart, IsFirstMissing, IsFirstShort, IsJoinFaultOf, IsFourthLine, IsWrongLine, places_of}
use Rattle.rw_sweep.specs.PartLines.{IsPartLine}
use Rattle.rw_sweep.specs.JoinSlots.{AreSlotsOf, HasReadTo, HaveRead, IsFaultOfCount, IsFaultOfSlot, IsFaultOfSlots, IsFirstEmpty, OfHeld}
use Rattle.rw_sweep.proofs.Gaining.{none-above}

-- a line that is wrong, behind what was read
pub wrong-line : (file : ℕ) (text rest : List ℕ) (old new : List Slot) (e : JoinFault) (read : HasReadTo text rest old new) → IsWrongLine file (length read.own) rest e → OfHeld old (λ before. HasFaultyLine file before text e)
wrong-line file text rest old new e read wrong before are =
    record { good = read.own; rest = rest; told = read.told; right = read.lines; few = (read.gained before are).few; wrong = inl wrong }

-- a line that is one too many, behind what was read
pub too-many-line : (file place : ℕ) (line text rest after : List ℕ) (old new : List Slot) (e : JoinFault) → HasReadTo text rest old new → rest ≡ placed_line place line ++ after
    → IsPartLine (record { place = place; line = line }) → e ≡ fault.Twice place → OfHeld new (λ ls. length (lines_of_place ls place) ≡ 3) → OfHeld old (λ before. HasFaultyLine file before text e)
too-many-line file place line text rest after old new e read is right told three before are =
    let now : AreSlotsOf (before ++ read.own) new = read.gained before are in
    let wrong : IsFourthLine (before ++ read.own) rest e =
    record { line = record { place = place; line = line }; after = after; told = is; right = right; three = three (before ++ read.own) now; is = told } in
    record { good = read.own; rest = rest; told = read.told; right = read.lines; few = now.few; wrong = inr wrong }

-- a part whose lines are not all read
pub part-refused : {A : Type 0} (r : Result A JoinFault) (file : ℕ) (text lines : List ℕ) (old : List Slot) → text ≡ part_header ++ lines
    → IfErr r (λ e. e ≢ fault.Memory → OfHeld old (λ before. HasFaultyLine file before lines e)) → IfErr r (λ e. e ≢ fault.Memory → OfHeld old (λ before. IsFaultOfPart file before text e))
part-refused (Ok u) file text lines old is h = tt
part-refused (Err e) file text lines old is h = λ real before are. inr (lines, is, h real before are)

-- the parts before one that is wrong have been read
pub first-faulty : {V : Type 0} (bytes : V → List ℕ) (vs : List V) (n : ℕ) (v : V) (slots : List Slot) (e : JoinFault) → n < length vs → v ≡ get_or vs n v
    → HaveRead (map bytes (take n vs)) slots → OfHeld slots (λ before. IsFaultOfPart n before (bytes v) e) → IsFirstFaultyPart (map bytes vs) e
first-faulty bytes vs n v slots e inside is read wrong =
    let lines : List PlacedLine = lines_of_all read.parts in
    let good : List (List ℕ) = map bytes (take n vs) in
    let next : suc n ≡ n + 1 = omega arith in
    let parted : vs ≡ take n vs ++ v ∷ drop (n + 1) vs =
    sym (take-append-drop n vs) ∙ ap (λ r. take n vs ++ r) (drop-cons vs n v inside ∙ (ap (λ x. x ∷ drop (suc n) vs) (sym is) ∙ ap (λ m. v ∷ drop m vs) next)) in
    let count : n ≡ length good = sym (length-map (take n vs) bytes ∙ length-take-le n vs (omega arith)) in
    record {
      good = good;
      bad = bytes v;
      rest = map bytes (drop (n + 1) vs);
      parted = ap (map bytes) parted ∙ map-append bytes (take n vs) (v ∷ drop (n + 1) vs);
      lines = lines;
      read = record { parts = read.parts; have = read.have; all = refl; few = read.hold.few };
      wrong = subst (λ k. IsFaultOfPart k lines (bytes v) e) count (wrong lines read.hold);
    }

-- a slot, where there are some
some-slot : (slots : List Slot) (k : ℕ) → k < length slots → Slot
some-slot [] k l = absurd (omega arith)
some-slot (x ∷ xs) k l = x

none-of : {A : Type 0} (xs : List A) → length xs ≡ 0 → xs ≡ []
none-of [] none = refl
none-of (x ∷ xs) none = absurd (omega arith)

module _ (texts : List (List ℕ)) (slots : List Slot) (read : HaveRead texts slots) where
  abbrev all : List PlacedLine
  all = lines_of_all read.parts

  are_read : AreReadAs texts all
  are_read = record { parts = read.parts; have = read.have; all = refl; few = read.hold.few }

  -- a place has as many lines as its slot
  as-many : (k : ℕ) (d : Slot) → k < length slots → (get_or slots k d).count ≡ length (lines_of_place all k)
  as-many k d l = (read.hold.each k d l).many

  first-missing : (place : ℕ) → IsFirstEmpty slots place → IsFirstMissing all (fault.Missing place)
  first-missing place first = (none (cases_lt place (length slots)), some)
    where
      none : (place < length slots) ⊎ (length slots ≤ place) → lines_of_place all place ≡ []
      none (inl inside) =
          let d : Slot = some-slot slots place inside in
          none-of (lines_of_place all place) (sym (as-many place d inside) ∙ first.empty d inside)
      none (inr past) = none-above (length slots) place all read.hold.within past

      some : (p : Position) → p < place → lines_of_place all p ≢ []
      some p before nothing =
          let inside : p < length slots = (let w = first.within in omega (arith, before, w)) in
          let d : Slot = some-slot slots p inside in
          first.before p d before (as-many p d inside ∙ ap length nothing)

  -- there are not as many places as are asked for
  pub count-refused : (asked : Option Count) (e : JoinFault) → IsFaultOfCount slots asked e → IsJoinFaultOf texts asked e
  count-refused None e wrong = absurd wrong
  count-refused (Some n) e (inl (few, (place, is, first))) =
      let less : places_of all < n = subst (λ m. m < n) read.many few in
      let told : IsFirstMissing all e = subst (IsFirstMissing all) (sym is) (first-missing place first) in
      inr (all, are_read, inl (less, told))
  count-refused (Some n) e (inr (more, is)) = inr (all, are_read, inr (inl (subst (λ m. n < m) read.many more, is)))

  first-short : (place many : ℕ) → place < length slots → ((p : Position) → p < place → length (lines_of_place all p) ≡ 3) → many ≡ length (lines_of_place all place) → (e : JoinFault) → IsFaultOfSlot place many e
      → IsFirstShort all e
  first-short place many inside threes is (fault.Missing p) (same, none) = (
    record { within = subst (λ k. k < places_of all) (sym same) (subst (λ m. place < m) read.many inside); threes = subst (λ k. (p : Position) → p < k → length (lines_of_place all p) ≡ 3) (sym same) threes },
    subst (λ k. lines_of_place all k ≡ []) (sym same) (none-of (lines_of_place all place) (sym is ∙ none)),
  )
  first-short place many inside threes is (fault.Lines p) (same, some, not_three) =
      let few : length (lines_of_place all place) ≤ 3 = read.hold.few place in
      let one : 1 ≤ length (lines_of_place all place) = omega (arith, is, some) in
      let two : length (lines_of_place all place) ≤ 2 = omega (arith, is, not_three, few) in (
        record { within = subst (λ k. k < places_of all) (sym same) (subst (λ m. place < m) read.many inside); threes = subst (λ k. (p : Position) → p < k → length (lines_of_place all p) ≡ 3) (sym same) threes },
        subst (λ k. 1 ≤ length (lines_of_place all k)) (sym same) one,
        subst (λ k. length (lines_of_place all k) ≤ 2) (sym same) two,
      )
  first-short place many inside threes is (fault.Header k) wrong = absurd wrong
  first-short place many inside threes is (fault.CutOff k) wrong = absurd wrong
  first-short place many inside threes is (fault.Length k n) wrong = absurd wrong
  first-short place many inside threes is (fault.Number k n c) wrong = absurd wrong
  first-short place many inside threes is (fault.Twice p) wrong = absurd wrong
  first-short place many inside threes is (fault.Beyond p) wrong = absurd wrong
  first-short place many inside threes is fault.Memory wrong = absurd wrong

  -- one of the places has not three lines
  pub slots-refused : (asked : Option Count) (e : JoinFault) → IfSome asked (λ n. length slots ≡ n) → IsFaultOfSlots slots e → IsJoinFaultOf texts asked e
  slots-refused asked e many wrong = inr (all, are_read, by asked many)
    where
      d : Slot
      d = some-slot slots wrong.place wrong.within

      threes : (p : Position) → p < wrong.place → length (lines_of_place all p) ≡ 3
      threes p before =
          let inside : p < length slots = (let w = wrong.within in omega (arith, before, w)) in
          sym (as-many p d inside) ∙ wrong.before p d before

      short : IsFirstShort all e
      short = first-short wrong.place (get_or slots wrong.place d).count wrong.within threes (as-many wrong.place d wrong.within) e (wrong.told d)

      by : (asked : Option Count) → IfSome asked (λ n. length slots ≡ n) → IsFaultOfPlaces all asked e
      by None many = short
      by (Some n) many = inr (inr (sym read.many ∙ many, short))

-- the same, of a text that may be refused
pub text-refused : {A : Type 0} (texts : List (List ℕ)) (slots : List Slot) (read : HaveRead texts slots) (asked : Option Count) (r : Result A JoinFault) → IfSome asked (λ n. length slots ≡ n)
    → IfErr r (λ e. e ≢ fault.Memory → IsFaultOfSlots slots e) → IfErr r (λ e. e ≢ fault.Memory → IsJoinFaultOf texts asked e)
text-refused texts slots read asked (Ok text) many wrong = tt
text-refused texts slots read asked (Err e) many wrong = λ real. slots-refused texts slots read asked e many (wrong real)

-- a text that is not empty
pub some-left : (xs : List ℕ) → eqb (length xs) 0 ≡ false → xs ≢ []
some-left xs e none = false≢true (sym e ∙ ap (λ t. eqb (length t) 0) none)

-- a slot before one has three lines, if all before that one have
pub threes-before : (slots : List Slot) (n : ℕ) → All (λ s. s.count ≡ 3) (take n slots) → n ≤ length slots → (k : ℕ) (d : Slot) → k < n → (get_or slots k d).count ≡ 3
threes-before slots n threes inside k d l = subst (λ (s : Slot). s.count ≡ 3) (get_or-take n slots k d l) (threes k d (subst (λ m. k < m) (sym (length-take-le n slots inside)) l))

-- the first slot that has not three lines
pub slots-fault : (slots : List Slot) (n : ℕ) (slot : Slot) (e : JoinFault) → n < length slots → slot ≡ get_or slots n slot → All (λ s. s.count ≡ 3) (take n slots) → IsFaultOfSlot n slot.count e → IsFaultOfSlots slots e
slots-fault slots n slot e inside is threes wrong =
    let at : (d : Slot) → slot ≡ get_or slots n d = λ d. is ∙ get_or_default slots n slot d inside in
    record { place = n; within = inside; before = threes-before slots n threes (omega arith); told = λ d. subst (λ (s : Slot). IsFaultOfSlot n s.count e) (at d) wrong }

-- the first slot that has none
pub empty-first : (slots : List Slot) (n : ℕ) (slot : Slot) → n < length slots → slot ≡ get_or slots n slot → ((k : ℕ) (d : Slot) → k < n → (get_or slots k d).count ≢ 0) → slot.count ≡ 0 → IsFirstEmpty slots n
empty-first slots n slot inside is before none =
    let at : (d : Slot) → slot ≡ get_or slots n d = λ d. is ∙ get_or_default slots n slot d inside in
    record { within = omega arith; before = before; empty = λ d l. subst (λ (s : Slot). s.count ≡ 0) (at d) none }

-- a slot more that has some
pub some-more : (slots : List Slot) (n : ℕ) (slot : Slot) → n < length slots → slot ≡ get_or slots n slot → ((k : ℕ) (d : Slot) → k < n → (get_or slots k d).count ≢ 0) → slot.count ≢ 0
    → (k : ℕ) (d : Slot) → k < n + 1 → (get_or slots k d).count ≢ 0
some-more slots n slot inside is before some k d l = by (cases_lt k n)
  where
    by : (k < n) ⊎ (n ≤ k) → (get_or slots k d).count ≢ 0
    by (inl less) = before k d less
    by (inr same) =
        let here : n ≡ k = omega (arith, same, l) in
        subst (λ j. (get_or slots j d).count ≢ 0) here (subst (λ (s : Slot). s.count ≢ 0) (is ∙ get_or_default slots n slot d inside) some)

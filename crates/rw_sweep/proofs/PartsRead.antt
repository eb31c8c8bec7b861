-- Lines that are read one after another, and parts.
use Rattle.std.proofs.Common.{◌≡◌, ℕ, suc, ◌+◌, ◌<◌, ◌≤◌, List, [], ◌∷◌, ◌++◌, length, map, min, get_or, Option, None, Some, Bor, Result, Ok, Err, take, refl, sym, ap, subst, ◌∙◌, arith, All, append_assoc, append-nil, length-append}
use Rattle.std.specs.Prelude.{◌≢◌, IfOk, IfSome, MatchOption, OnOk, codes, decimal}
use Rattle.std.specs.Global.{Vec}
use Rattle.std.specs.List.{AllZip, concat, flat_map, range_with_len}
use Rattle.std.proofs.lemmas.Grind.{flat_map-append}
use Rattle.std.proofs.lemmas.List.Elements.{All-append, All-cons, All-head, All-nil, All-tail, All-weaker}
use Rattle.std.proofs.lemmas.List.{append_cancel_left, map-append, take_more}
use Rattle.rw_vt.specs.Words.{Count, Position}
use Rattle.rw_sweep.specs.Joining.{IsLine, PlacedLine, lines_of_all, lines_of_place, newline}
use Rattle.rw_sweep.specs.Parts.{part_header, placed_line}
use Rattle.rw_sweep.specs.Table.{header_line}
use Rattle.rw_sweep.proofs.WholeLines.{digits-decimal}
use Rattle.rw_sweep.specs.declared.joiner.join_fault.JoinFault.{JoinFault}
use Rattle.rw_sweep.specs.declared.joiner.slots.Slot.{Slot}
use Rattle.rw_sweep.specs.JoinFaults.{places_of}
use Rattle.rw_sweep.specs.Join.{HasJoined}
use Rattle.rw_sweep.specs.PartLines.{IsPartWith, IsPartLine}
use Rattle.rw_sweep.specs.JoinSlots.{AreSlotsOf, HasReadPart, HasReadRows, HasReadTo, HaveGained, HaveGrown, HaveRead}
use Rattle.rw_sweep.proofs.Gaining.{concat-more, gained-nothing, gained-then, grown-nothing, grown-then, places-append}

text_of : List PlacedLine → List ℕ
text_of ls = flat_map (λ l. placed_line l.place l.line) ls

-- nothing has been read yet
pub read-none : (text : List ℕ) (slots : List Slot) → HasReadRows text text slots slots 0
read-none text slots = (record { own = []; told = refl; lines = All-nil IsPartLine; gained = gained-nothing slots; grown = grown-nothing slots }, refl)

-- no text has more lines than bytes
rows-below : (own : List PlacedLine) → length own ≤ length (text_of own)
unfolding text_of
rows-below [] = omega arith
rows-below (x ∷ xs) =
    let p : List ℕ = placed_line x.place x.line in
    let comma : List ℕ = 44 ∷ [] in
    let one : length comma ≡ 1 = refl in
    let some : 1 ≤ length p = omega (arith, length-append (decimal x.place ++ comma) x.line, length-append (decimal x.place) comma, one) in
    omega (arith, rows-below xs, length-append p (text_of xs), some)

-- a line more
pub read-more : (text rest after : List ℕ) (place : Position) (line : List ℕ) (old mid new : List Slot) (n m : ℕ) → HasReadRows text rest old mid n → rest ≡ placed_line place line ++ after
    → IsPartLine (record { place = place; line = line }) → HaveGained (record { place = place; line = line } ∷ []) mid new → HaveGrown (record { place = place; line = line } ∷ []) mid new
    → m ≡ min (n + 1) 18446744073709551615 → length text ≤ 18446744073709551615 → HasReadRows text after old new m
unfolding text_of
read-more text rest after place line old mid new n m (so_far, rows) is whole more grown next short =
    let one : PlacedLine = record { place = place; line = line } in
    let p : List ℕ = placed_line place line in
    let own : List PlacedLine = so_far.own ++ one ∷ [] in
    let all : text_of own ≡ text_of so_far.own ++ p =
    flat_map-append (λ l. placed_line l.place l.line) so_far.own (one ∷ []) ∙ ap (λ t. text_of so_far.own ++ t) (append-nil p) in
    let told : text ≡ text_of own ++ after = so_far.told ∙ (ap (λ t. text_of so_far.own ++ t) is ∙ (sym (append_assoc (text_of so_far.own) p after) ∙ ap (λ t. t ++ after) (sym all))) in
    let long : length own ≡ length so_far.own + 1 = length-append so_far.own (one ∷ []) in
    let bytes : length text ≡ length (text_of own) + length after = ap length told ∙ length-append (text_of own) after in
    let many : m ≡ length own = omega (arith, next, rows, long, bytes, short, rows-below own) in (
      record {
        own = own;
        told = told;
        lines = All-append IsPartLine so_far.own (one ∷ []) so_far.lines (All-cons IsPartLine one [] whole (All-nil IsPartLine));
        gained = gained-then so_far.own (one ∷ []) old mid new so_far.gained more;
        grown = grown-then so_far.own (one ∷ []) old mid new so_far.grown grown;
      },
      many,
    )

-- a part whose lines have been read
pub part-read : {E : Type 0} (r : Result (Unit {0}) E) (text lines : List ℕ) (old new : List Slot) → text ≡ part_header ++ lines → OnOk r (HasReadTo lines [] old new) → OnOk r (HasReadPart text old new)
unfolding text_of
part-read (Err e) text lines old new is h = tt
part-read (Ok u) text lines old new is h =
    record {
      own = h.own;
      is = record { told = is ∙ ap (λ t. part_header ++ t) (h.told ∙ append-nil (text_of h.own)); lines = h.lines };
      gained = h.gained;
      grown = h.grown;
    }

-- no part has been read yet
pub none-read : HaveRead [] []
none-read = record { parts = []; have = tt; hold = record { within = All-nil (λ l. l.place < 0); few = λ place. omega arith; each = λ place d l. absurd (omega arith) }; many = refl }

have-more : (texts : List (List ℕ)) (parts : List (List PlacedLine)) (text : List ℕ) (own : List PlacedLine) → AllZip IsPartWith texts parts → IsPartWith text own
    → AllZip IsPartWith (texts ++ text ∷ []) (parts ++ own ∷ [])
have-more [] [] text own have is = (is, tt)
have-more [] (y ∷ ys) text own have is = absurd have
have-more (x ∷ xs) [] text own have is = absurd have
have-more (x ∷ xs) (y ∷ ys) text own have is = (have.0, have-more xs ys text own have.1 is)

-- a part more
pub one-read : (texts : List (List ℕ)) (text : List ℕ) (old new : List Slot) → HaveRead texts old → HasReadPart text old new → HaveRead (texts ++ text ∷ []) new
one-read texts text old new so_far more =
    let all : lines_of_all so_far.parts ++ more.own ≡ lines_of_all (so_far.parts ++ more.own ∷ []) =
    ap (λ t. lines_of_all so_far.parts ++ t) (sym (append-nil more.own)) ∙ sym (flat_map-append (λ ls. ls) so_far.parts (more.own ∷ [])) in
    record {
      parts = so_far.parts ++ more.own ∷ [];
      have = have-more texts so_far.parts text more.own so_far.have more.is;
      hold = subst (λ ls. AreSlotsOf ls new) all (more.gained (lines_of_all so_far.parts) so_far.hold);
      many = omega (arith, so_far.many, more.grown, places-append (lines_of_all so_far.parts) more.own, ap places_of all);
    }

texts-of : (f : ℕ → List (List ℕ)) (m : ℕ) (slots : List Slot) → ((i : ℕ) (d : Slot) → i < length slots → (get_or slots i d).text.items ≡ concat (f (m + i)))
    → concat (map (λ slot. slot.text.items) slots) ≡ flat_map (λ k. concat (f k)) (range_with_len m (length slots))
texts-of f m [] each = refl
texts-of f m (x ∷ xs) each =
    let none : m + 0 ≡ m = omega arith in
    let next : (i : ℕ) → m + suc i ≡ m + 1 + i = λ i. omega arith in
    let here : x.text.items ≡ concat (f m) = each 0 x (omega arith) ∙ ap (λ k. concat (f k)) none in
    let rest = texts-of f (m + 1) xs (λ i d l. each (suc i) d (omega arith) ∙ ap (λ k. concat (f k)) (next i)) in
    λ i. here i ++ rest i

-- slots with three lines each make the table
pub joined : (texts : List (List ℕ)) (slots : List Slot) (asked : Option Count) (r : Result (Vec ℕ) JoinFault) → HaveRead texts slots → IfSome asked (λ n. length slots ≡ n)
    → OnOk r (All (λ slot. slot.count ≡ 3) slots) → IfOk r (λ text. text.items ≡ header_line ++ concat (map (λ slot. slot.text.items) slots))
    → IfOk r (λ text. HasJoined texts asked text.items)
joined texts slots asked (Err e) read many three told = tt
joined texts slots asked (Ok text) read many three told =
    let all : List PlacedLine = lines_of_all read.parts in
    let empty : Vec ℕ = text in
    let d : Slot = record { count = 0; text = empty } in
    let at : (i : ℕ) (d : Slot) → i < length slots → (get_or slots i d).text.items ≡ concat (lines_of_place all (0 + i)) =
    λ i d l. let same : i ≡ 0 + i = omega arith in (read.hold.each i d l).told ∙ ap (λ k. concat (lines_of_place all k)) same in (
      length slots,
      record {
        parts = read.parts;
        have = read.have;
        within = read.hold.within;
        three = λ place l. sym (read.hold.each place d l).many ∙ three place d l;
        told = told ∙ ap (λ t. header_line ++ t) (texts-of (lines_of_place all) 0 slots at);
      },
      many,
    )

-- what stands behind the header, if that is there
pub behind-both : (r : Option (Bor (List ℕ))) (text mid header : List ℕ) → text ≡ codes "place," ++ mid → header ≡ header_line → MatchOption r ((rest : List ℕ) → mid ≢ header ++ rest) (λ rest. mid ≡ header ++ rest.now)
    → MatchOption r ((rest : List ℕ) → text ≢ part_header ++ rest) (λ rest. text ≡ part_header ++ rest.now)
behind-both None text mid header is named none =
    λ rest e. none rest (append_cancel_left (codes "place,") mid (header ++ rest) (sym is ∙ (e ∙ (append_assoc (codes "place,") header_line rest ∙ ap (λ h. codes "place," ++ (h ++ rest)) (sym named)))))
behind-both (Some x) text mid header is named some = is ∙ (ap (λ t. codes "place," ++ t) (some ∙ ap (λ h. h ++ x.now) named) ∙ sym (append_assoc (codes "place,") header_line x.now))

-- a line without its first bytes, none of which ends it
line-from : (xs line : List ℕ) → All (λ b. b ≢ newline) xs → IsLine (xs ++ line) → IsLine line
line-from [] line none whole = whole
line-from (x ∷ xs) line none whole = line-from xs line (All-tail (λ b. b ≢ newline) x xs none) (by whole.body whole.ends whole.one)
  where
    by : (body : List ℕ) → x ∷ (xs ++ line) ≡ body ++ newline ∷ [] → All (λ b. b ≢ newline) body → IsLine (xs ++ line)
    by [] ends one = let here : x ≡ newline = cc in absurd (All-head (λ b. b ≢ newline) x xs none here)
    by (b ∷ bs) ends one = let rest : xs ++ line ≡ bs ++ newline ∷ [] = cc in record { body = bs; ends = rest; one = All-tail (λ b. b ≢ newline) b bs one }

-- a line without its place
pub line-behind : (place : Position) (line own : List ℕ) → IsLine line → line ≡ decimal place ++ codes "," ++ own → IsLine own
line-behind place line own whole is =
    let digits : All (λ b. b ≢ newline) (decimal place) = All-weaker (λ b. 47 < b) (λ b. b ≢ newline) (λ b l e. omega arith) (decimal place) (digits-decimal place) in
    let not_comma : 44 ≢ newline = λ e. omega arith in
    let front : All (λ b. b ≢ newline) (decimal place ++ codes ",") =
    All-append (λ b. b ≢ newline) (decimal place) (codes ",") digits (All-cons (λ b. b ≢ newline) 44 [] not_comma (All-nil (λ b. b ≢ newline))) in
    line-from (decimal place ++ codes ",") own front (subst IsLine is whole)

-- the text of a slot more
pub told-more : (slots : List Slot) (n : ℕ) (slot : Slot) (text new : List ℕ) → n < length slots → slot ≡ get_or slots n slot
    → text ≡ header_line ++ concat (map (λ s. s.text.items) (take n slots)) → new ≡ text ++ slot.text.items → new ≡ header_line ++ concat (map (λ s. s.text.items) (take (n + 1) slots))
told-more slots n slot text new l is so_far grown =
    let told : Slot → List ℕ = λ s. s.text.items in
    let front : List (List ℕ) = map told (take n slots) in
    let more : take (n + 1) slots ≡ take n slots ++ slot ∷ [] = take_more slots n slot l ∙ ap (λ s. take n slots ++ s ∷ []) (sym is) in
    let all : map told (take (n + 1) slots) ≡ front ++ slot.text.items ∷ [] = ap (map told) more ∙ map-append told (take n slots) (slot ∷ []) in
    grown ∙ (ap (λ t. t ++ slot.text.items) so_far ∙ (append_assoc header_line (concat front) slot.text.items ∙ ap (λ t. header_line ++ t) (concat-more front slot.text.items ∙ ap concat (sym all))))

-- a line that is taken away leaves a shorter text
pub shorter : (rest after : List ℕ) (place : Position) (line : List ℕ) → rest ≡ placed_line place line ++ after → length after < length rest
shorter rest after place line is =
    let comma : List ℕ = 44 ∷ [] in
    let one : length comma ≡ 1 = refl in
    omega (arith, ap length is, length-append (placed_line place line) after, length-append (decimal place ++ comma) line, length-append (decimal place) comma, one)

-- where nothing is left, the text has been read
pub all-read : (text rest : List ℕ) (old new : List Slot) → length rest ≡ 0 → HasReadTo text rest old new → HasReadTo text [] old new
all-read text [] old new none read = read
all-read text (x ∷ xs) old new none read = absurd (omega arith)

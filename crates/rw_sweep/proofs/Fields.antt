-- The fields of a line of a part.
use Rattle.std.proofs.Common.{◌≡◌, ◌⊎◌, inl, inr, ℕ, zero, suc, ◌+◌, ◌<◌, ◌≤◌, ◌-◌, ◌*◌, ◌/◌, ◌%◌, ◌^◌, ◌||◌, Bool, true, false, List, [], ◌∷◌, ◌++◌, length, length-append, map, take, drop, get_or, Option, None, Some, Bor, codes, refl, sym, ap, subst, ◌∙◌, arith, All, append_assoc}
use Rattle.std.specs.Prelude.{◌≢◌, Contains, decimal}
use Rattle.std.specs.Bool.{Decides}
use Rattle.std.specs.Char.{is_ascii_digit}
use Rattle.std.specs.Iterator.{Yields}
use Rattle.std.specs.List.{AllPass, join_with_byte, list_all, list_any}
use Rattle.std.specs.Str.{bytes_eq}
use Rattle.std.proofs.lemmas.Bool.{cases_lt, false≢true}
use Rattle.std.proofs.lemmas.Fmt.{decimal_by_steps, length-decimal-le}
use Rattle.std.proofs.lemmas.Grind.{common_steps}
use Rattle.std.proofs.lemmas.Iterator.{YieldsList}
use Rattle.std.proofs.lemmas.Iterator.Consumers.{YieldsList-end, YieldsList-turn}
use Rattle.std.proofs.Math.Seq.{drop-append_seam, take-append_seam}
use Rattle.std.proofs.lemmas.List.{append_cancel_right, get_or_default, length-drop, take-append-drop}
use Rattle.std.proofs.lemmas.List.Elements.{All-cons, All-tail}
use Rattle.std.proofs.lemmas.List.Splits.{join_with_byte-slice_split}
use Rattle.std.proofs.lemmas.List.Sums.{AllPass-from_list_all, list_all-from_AllPass}
use Rattle.std.proofs.lemmas.Slice.Eq.{bytes_eq-Decides}
use Rattle.rw_trace.specs.Trace.{number_of, value_after}
use Rattle.rw_trace.proofs.Numbers.{is-number}
use Rattle.rw_sweep.specs.Joining.{IsLine, newline}
use Rattle.rw_sweep.specs.Limits.{most_configurations}
use Rattle.rw_sweep.specs.Parts.{placed_line}
use Rattle.rw_sweep.specs.JoinFaults.{BeginsWithLine}
use Rattle.rw_sweep.specs.PartLines.{IsDecimalField, IsFirstMisfit, IsNumberField, IsOfColumn, IsPartLine, IsPlaceField, IsRateField, IsRatioField, IsRowOfPart, part_field, fields_of, part_columns}
use Rattle.rw_sweep.proofs.PartsRead.{line-behind}

-- a line behind its place, by the line without its end
pub row-placed : (place : ℕ) (line own body : List ℕ) → line ≡ body ++ newline ∷ [] → All (λ b. b ≢ newline) body → line ≡ placed_line place own → place < most_configurations → IsRowOfPart body
    → IsPartLine (record { place = place; line = own })
row-placed place line own body told one is less row =
    let whole : IsLine line = record { body = body; ends = told; one = one } in
    let rest : IsLine own = line-behind place line own whole is in
    let ends : placed_line place rest.body ++ newline ∷ [] ≡ body ++ newline ∷ [] =
    append_assoc (decimal place ++ codes ",") rest.body (newline ∷ []) ∙ (ap (λ t. placed_line place t) (sym rest.ends) ∙ (sym is ∙ told)) in
    let same : placed_line place rest.body ≡ body = append_cancel_right (placed_line place rest.body) body (newline ∷ []) ends in
    record { whole = rest; place = less; row = subst IsRowOfPart (sym same) row }

-- a line of a part begins with a place
pub row-has-place : (line body : List ℕ) → line ≡ body ++ newline ∷ [] → IsRowOfPart body → ((p : ℕ) (rest : List ℕ) → p < most_configurations → line ≢ placed_line p rest) → ⊥
row-has-place line body told row refused = by (fields_of body) refl row.many
  where
    first : IsPlaceField (part_field body 0)
    first = (row.each 0 (omega arith)).place refl

    by : (fs : List (List ℕ)) → fields_of body ≡ fs → length fs ≡ part_columns → ⊥
    by [] is many = absurd (omega arith)
    by (f ∷ []) is many = absurd (omega arith)
    by (f ∷ g ∷ gs) is many =
        let rest : List ℕ = join_with_byte 44 (g ∷ gs) in
        let all : body ≡ f ++ 44 ∷ rest = sym (join_with_byte-slice_split 44 body) ∙ ap (join_with_byte 44) is in
        let here : f ≡ decimal first.place = sym (ap (λ fs. get_or fs 0 []) is) ∙ first.written in
        let p : ℕ = first.place in
        let end : List ℕ = newline ∷ [] in
        let whole : line ≡ placed_line p (rest ++ end) =
        told ∙ (ap (λ t. t ++ end) (all ∙ ap (λ t. t ++ 44 ∷ rest) here) ∙ (append_assoc (decimal p) (44 ∷ rest) end ∙ sym (append_assoc (decimal p) (codes ",") (rest ++ end)))) in
        refused p (rest ++ end) first.within whole

-- a line that is wrong, whatever stands behind it
pub begins-with : (line body after : List ℕ) (Holds : List ℕ → Type 0) → line ≡ body ++ newline ∷ [] → All (λ b. b ≢ newline) body → Holds body → BeginsWithLine (line ++ after) Holds
begins-with line body after Holds told one holds = record { body = body; after = after; told = ap (λ t. t ++ after) told ∙ append_assoc body (newline ∷ []) after; one = one; holds = holds }

-- an iteration of a loop over what an iterator yields, and the end of such a loop: the loop's facts come before the list
pub turn-of : {S A B : Type 0} {steps : S → Option A → S → Type 0} {v : A → B} {s : S} {all : List B} (xs : List A) (t : S) → Yields steps s xs t → (r : Option A) (u : S) (x : A) → r ≡ Some x → steps t r u → YieldsList steps v s all
    → (length xs < length all) × (v x ≡ get_or all (length xs) (v x))
turn-of xs t y r u x is more road = YieldsList-turn road xs t y r u x is more

pub end-of : {S A B : Type 0} {steps : S → Option A → S → Type 0} {v : A → B} {s : S} {all : List B} (xs : List A) (t : S) → Yields steps s xs t → (r : Option A) (u : S) → r ≡ None → steps t r u → YieldsList steps v s all → length xs ≡ length all
end-of xs t y r u is more road = (YieldsList-end road xs t y r u is more).1

-- the field that is read is that of its column
field-read : (body field : List ℕ) (column n : ℕ) → column ≡ n → n < length (fields_of body) → field ≡ get_or (fields_of body) n field → field ≡ part_field body column
field-read body field column n is inside read = read ∙ (get_or_default (fields_of body) n field [] inside ∙ ap (λ k. get_or (fields_of body) k []) (sym is))

pub misfit-found : (body field : List ℕ) (column n : ℕ) → length (fields_of body) ≡ part_columns → column ≡ n → n < length (fields_of body) → field ≡ get_or (fields_of body) n field
    → ((k : ℕ) → k < column → IsOfColumn k (part_field body k)) → (IsOfColumn column field → ⊥) → IsFirstMisfit body column
misfit-found body field column n many is inside read before wrong =
    record {
      many = many;
      within = omega (arith, many, is, inside);
      before = before;
      misfit = λ h. wrong (subst (IsOfColumn column) (sym (field-read body field column n is inside read)) h);
    }

pub column-more : (body field : List ℕ) (column n : ℕ) → column ≡ n → n < length (fields_of body) → field ≡ get_or (fields_of body) n field → ((k : ℕ) → k < column → IsOfColumn k (part_field body k)) → IsOfColumn column field
    → (k : ℕ) → k < column + 1 → IsOfColumn k (part_field body k)
column-more body field column n is inside read before right k l = by (cases_lt k column)
  where
    by : (k < column) ⊎ (column ≤ k) → IsOfColumn k (part_field body k)
    by (inl less) = before k less
    by (inr past) =
        let here : column ≡ k = omega (arith, past, l) in
        subst (λ j. IsOfColumn j (part_field body j)) here (subst (IsOfColumn column) (field-read body field column n is inside read) right)

pub row-read : (body : List ℕ) (column n : ℕ) → length (fields_of body) ≡ part_columns → column ≡ n → n ≡ length (fields_of body) → ((k : ℕ) → k < column → IsOfColumn k (part_field body k)) → IsRowOfPart body
row-read body column n many is all before = record { many = many; each = λ k l. before k (omega (arith, many, is, all, l)) }

-- ---- what a field is
pub none-decides : (P : Type 0) → (P → ⊥) → Decides false P
none-decides P never = (λ e. absurd (false≢true e), λ h. absurd (never h))

pub ratio-by : (r : Bool) (f : List ℕ) → length f ≡ 8 → is_ascii_digit (get_or f 0 0) ≡ true → get_or f 1 0 ≡ 46 → Decides r (AllPass is_ascii_digit (drop 2 f)) → Decides r (IsRatioField f)
ratio-by r [] long ones point digits = absurd (omega arith)
ratio-by r (a ∷ []) long ones point digits = absurd (omega arith)
ratio-by r (a ∷ b ∷ ds) long ones point (true_so, so_true) = (
  λ t. record {
    ones = a;
    decimals = ds;
    told = λ i. a ∷ point i ∷ ds;
    six = omega arith;
    digits = All-cons (λ b. is_ascii_digit b ≡ true) a ds ones (true_so t);
  },
  λ h. so_true (subst (AllPass is_ascii_digit) (sym (ap (drop 2) h.told)) (All-tail (λ b. is_ascii_digit b ≡ true) h.ones h.decimals h.digits)),
)

-- ---- a number with six decimals
record AreParts (f whole rest : List ℕ) (h : IsDecimalField f) : Type 0 where
  front : whole ≡ h.whole
  back : rest ≡ 46 ∷ h.decimals

parts-of : (f whole rest : List ℕ) → whole ≡ take (length f - 7) f → rest ≡ drop (length f - 7) f → (h : IsDecimalField f) → AreParts f whole rest h
parts-of f whole rest front back h =
    let tail : List ℕ = 46 ∷ h.decimals in
    let all = ap length h.told ∙ length-append h.whole tail in
    let seven : length tail ≡ 7 = let six = h.six in omega (arith, six) in
    let cut : length f - 7 ≡ length h.whole = omega (arith, all, seven) in
    record {
      front = front ∙ (ap (λ k. take k f) cut ∙ (ap (take (length h.whole)) h.told ∙ take-append_seam h.whole tail));
      back = back ∙ (ap (λ k. drop k f) cut ∙ (ap (drop (length h.whole)) h.told ∙ drop-append_seam h.whole tail));
    }

pub short-decides : (f : List ℕ) → length f < 7 → Decides false (IsDecimalField f)
short-decides f short = none-decides (IsDecimalField f) (λ h.
    let tail : List ℕ = 46 ∷ h.decimals in
    let all = ap length h.told ∙ length-append h.whole tail in
    let seven : length tail ≡ 7 = let six = h.six in omega (arith, six) in
    omega (arith, all, seven, short))

module _ (f whole rest : List ℕ) (front : whole ≡ take (length f - 7) f) (back : rest ≡ drop (length f - 7) f) where
  pub whole-decides : (IsNumberField whole → ⊥) → Decides false (IsDecimalField f)
  whole-decides none = none-decides (IsDecimalField f) (λ h. none (subst IsNumberField (sym (parts-of f whole rest front back h).front) h.number))

  pub point-decides : (get_or rest 0 0 ≡ 46 → ⊥) → Decides false (IsDecimalField f)
  point-decides none = none-decides (IsDecimalField f) (λ h. none (ap (λ r. get_or r 0 0) (parts-of f whole rest front back h).back))

  pub decimals-decide : (r : Bool) → 7 ≤ length f → IsNumberField whole → get_or rest 0 0 ≡ 46 → Decides r (AllPass is_ascii_digit (drop 1 rest)) → Decides r (IsDecimalField f)
  decimals-decide r long number point (true_so, so_true) =
      let seven : length rest ≡ 7 = omega (arith, ap length back, length-drop (length f - 7) f, long) in
      let all : f ≡ whole ++ rest = sym (take-append-drop (length f - 7) f) ∙ (λ i. sym front i ++ sym back i) in (
        λ t. made rest seven point all (true_so t),
        λ h. so_true (subst (λ r. AllPass is_ascii_digit (drop 1 r)) (sym (parts-of f whole rest front back h).back) h.digits),
      )
    where
      made : (rest : List ℕ) → length rest ≡ 7 → get_or rest 0 0 ≡ 46 → f ≡ whole ++ rest → AllPass is_ascii_digit (drop 1 rest) → IsDecimalField f
      made [] seven point all digits = absurd (omega (arith, seven))
      made (b ∷ ds) seven point all digits = record {
        whole = whole;
        decimals = ds;
        told = all ∙ ap (λ c. whole ++ c ∷ ds) point;
        number = number;
        six = omega (arith, seven);
        digits = digits;
      }

-- nothing, or such a number
pub empty-rate : (f : List ℕ) → length f ≡ 0 → Decides true (IsRateField f)
empty-rate [] none = (λ t. inl refl, λ h. refl)
empty-rate (b ∷ bs) none = absurd (omega (arith, none))

pub rate-so : (r : Bool) (f : List ℕ) → (length f ≡ 0 → ⊥) → Decides r (IsDecimalField f) → Decides r (IsRateField f)
rate-so r f some (true_so, so_true) = (λ t. inr (true_so t), λ h. by h)
  where
    by : IsRateField f → r ≡ true
    by (inl none) = absurd (some (ap length none))
    by (inr decimal) = so_true decimal

pub digits-decides : (r : Bool) (bs : List ℕ) → r ≡ list_all is_ascii_digit bs → Decides r (AllPass is_ascii_digit bs)
digits-decides r bs is = (λ t. AllPass-from_list_all is_ascii_digit bs (sym is ∙ t), λ h. is ∙ list_all-from_AllPass is_ascii_digit bs h)

pub any-contains : (f : List ℕ) (ws : List (List ℕ)) → Decides (list_any (λ w. bytes_eq w f) ws) (Contains ws f)
any-contains f [] = none-decides (Contains [] f) (λ h. let l = h.1 in omega (arith, l))
any-contains f (w ∷ ws) = by (bytes_eq w f) refl (any-contains f ws)
  where
    same : Decides (bytes_eq w f) (w ≡ f)
    same = bytes_eq-Decides w f

    by : (b : Bool) → bytes_eq w f ≡ b → Decides (list_any (λ w. bytes_eq w f) ws) (Contains ws f) → Decides (list_any (λ w. bytes_eq w f) (w ∷ ws)) (Contains (w ∷ ws) f)
    by true e rest = (λ _. (0, omega arith, same.0 e), λ _. rw e refl)
    by false e rest = (
      λ t. let h : Contains ws f = rest.0 (rw e at t) in (suc h.0, omega (arith, h.1), h.2),
      λ h. rw e (rest.1 (later h.0 h.1 h.2)),
    )
      where
        later : (k : ℕ) → k < length (w ∷ ws) → get_or (w ∷ ws) k f ≡ f → Contains ws f
        later zero l is = absurd (false≢true (sym e ∙ same.1 is))
        later (suc k) l is = (k, omega (arith, l), is)

any-read : (f : List ℕ) (xs : List (Bor (List ℕ))) → list_any (λ w. bytes_eq w.now f) xs ≡ list_any (λ w. bytes_eq w f) (map (λ w. w.now) xs)
any-read f [] = refl
any-read f (x ∷ xs) = ap (λ b. bytes_eq x.now f || b) (any-read f xs)

pub one-of : (r : Bool) (f : List ℕ) (xs : List (Bor (List ℕ))) → r ≡ list_any (λ w. bytes_eq w.now f) xs → Decides r (Contains (map (λ w. w.now) xs) f)
one-of r f xs is = subst (λ b. Decides b (Contains (map (λ w. w.now) xs) f)) (sym (is ∙ any-read f xs)) (any-contains f (map (λ w. w.now) xs))

-- ---- what a place's digits are read as
record AreDigitsOf (n : ℕ) (ds : List ℕ) : Type 0 where
  value : value_after 0 ds ≡ Some n
  some : 1 ≤ length ds

-- a digit is an ASCII digit
is-digit : (d : ℕ) → d < 10 → is_ascii_digit (48 + d) ≡ true
is-digit d h = grind (arith, common_steps)

-- one more digit at the end
value-push : (m v d : ℕ) (ds : List ℕ) → d < 10 → value_after m ds ≡ Some v → value_after m (ds ++ (48 + d) ∷ []) ≡ Some (v * 10 + d)
unfolding value_after
value-push m v d [] h e =
    let same : m ≡ v = cc in
    let back : (48 + d) - 48 ≡ d = omega arith in
    rw (is-digit d h, same, back) refl
value-push m v d (b ∷ bs) h e = by (is_ascii_digit b) refl (value-push (m * 10 + (b - 48)) v d bs h)
  where
    by : (c : Bool) → is_ascii_digit b ≡ c → (value_after (m * 10 + (b - 48)) bs ≡ Some v → value_after (m * 10 + (b - 48)) (bs ++ (48 + d) ∷ []) ≡ Some (v * 10 + d))
        → value_after m ((b ∷ bs) ++ (48 + d) ∷ []) ≡ Some (v * 10 + d)
    by true k more = rw k (more (rw k at e))
    by false k more = let never = rw k at e in cc

-- no digit
zero-value : value_after 0 [] ≡ Some 0
unfolding value_after
zero-value = refl

decimal-digits : (n : ℕ) → n < 2 ^ 64 → AreDigitsOf n (decimal n)
decimal-digits = decimal_by_steps AreDigitsOf one more
  where
    one : (n : ℕ) → n < 10 → AreDigitsOf n ((48 + n) ∷ [])
    one n h = record { value = rw (value-push 0 0 n [] h zero-value) (ap (λ (m : ℕ). Some m) (omega arith)); some = omega arith }

    more : (n : ℕ) (ds : List ℕ) → 10 ≤ n → AreDigitsOf (n / 10) ds → AreDigitsOf n (ds ++ ((48 + n % 10) ∷ []))
    more n ds h k =
        let small : n % 10 < 10 = omega arith in
        let back : n / 10 * 10 + n % 10 ≡ n = omega arith in
        record {
          value = rw (value-push 0 (n / 10) (n % 10) ds small k.value, back) refl;
          some = grind (arith, common_steps, k.some);
        }

-- a number's digits are read as it
number-decimal : (n : ℕ) → n < 2 ^ 64 → number_of (decimal n) ≡ Some n
number-decimal n h =
    let ds = decimal-digits n h in
    let few : length (decimal n) ≤ 20 = length-decimal-le 20 n (omega arith) (omega arith) h in
    let some : 1 ≤ length (decimal n) = ds.some in
    is-number (decimal n) n (grind (arith, common_steps)) few h ds.value

-- a place is read as itself
read-place : (f : List ℕ) (h : IsPlaceField f) → number_of f ≡ Some h.place
read-place f h =
    let less = h.within in
    ap number_of h.written ∙ number-decimal h.place (omega (arith, less))

pub unread-no-place : (f : List ℕ) → number_of f ≡ None → IsPlaceField f → ⊥
unread-no-place f none h = let read = read-place f h in let never : None ≡ Some h.place = sym none ∙ read in cc

pub great-no-place : (f : List ℕ) (n : ℕ) → number_of f ≡ Some n → most_configurations ≤ n → IsPlaceField f → ⊥
great-no-place f n is great h =
    let both : Some n ≡ Some h.place = sym is ∙ read-place f h in
    let same : n ≡ h.place = cc in
    let less = h.within in
    omega (arith, same, great, less)

pub other-no-place : (f : List ℕ) (n : ℕ) → number_of f ≡ Some n → (f ≡ decimal n → ⊥) → IsPlaceField f → ⊥
other-no-place f n is other h =
    let both : Some n ≡ Some h.place = sym is ∙ read-place f h in
    let same : n ≡ h.place = cc in
    other (h.written ∙ ap decimal (sym same))

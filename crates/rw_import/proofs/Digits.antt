-- What a number's digits are read as.
use Rattle.std.proofs.Common.{◌≡◌, ◌≤◌, ◌<◌, ◌+◌, ◌-◌, ◌*◌, ◌/◌, ◌%◌, ◌^◌, ℕ, List, [], ◌∷◌, ◌++◌, length, Bool, true, false, Some, refl, arith, ap}
use Rattle.std.specs.Char.{is_ascii_digit}
use Rattle.std.specs.Fmt.{decimal}
use Rattle.std.specs.List.{list_any}
use Rattle.std.proofs.lemmas.Fmt.{decimal_by_steps, length-decimal-le}
use Rattle.std.proofs.lemmas.Grind.{common_steps}
use Rattle.csv.specs.Quoting.{needs_byte}
use Rattle.csv.specs.Writing.{default_writer}
use Rattle.rw_trace.specs.Trace.{number_of, value_after}
use Rattle.rw_trace.proofs.Numbers.{is-number}

-- the digits of a number: they have its value, there is one at least, and none calls for quotes
pub record AreDigitsOf (n : ℕ) (ds : List ℕ) : Type 0 where
  pub value : value_after 0 ds ≡ Some n
  pub some : 1 ≤ length ds
  pub plain : list_any (needs_byte default_writer) ds ≡ false

-- a digit is an ASCII digit
is-digit : (d : ℕ) → d < 10 → is_ascii_digit (48 + d) ≡ true
is-digit d h = grind (arith, common_steps)

-- a digit calls for no quotes
digit-plain : (d : ℕ) → d < 10 → needs_byte default_writer (48 + d) ≡ false
digit-plain d h = grind (arith, common_steps)

-- one more digit at the end
value-push : (m v d : ℕ) (ds : List ℕ) → d < 10 → value_after m ds ≡ Some v → value_after m (ds ++ (48 + d) ∷ []) ≡ Some (v * 10 + d)
unfolding value_after
value-push m v d [] h e =
    let same : m ≡ v = cc in
    let back : (48 + d) - 48 ≡ d = omega arith in
    rw (is-digit d h, same, back) refl
value-push m v d (b ∷ bs) h e = by (is_ascii_digit b) refl (value-push (m * 10 + (b - 48)) v d bs h)
  where
    by : (c : Bool) → is_ascii_digit b ≡ c → (value_after (m * 10 + (b - 48)) bs ≡ Some v → value_after (m * 10 + (b - 48)) (bs ++ (48 + d) ∷ []) ≡ Some (v * 10 + d))
        → value_after m ((b ∷ bs) ++ (48 + d) ∷ []) ≡ Some (v * 10 + d)
    by true k more = rw k (more (rw k at e))
    by false k more = let no = rw k at e in cc

plain-push : (d : ℕ) (ds : List ℕ) → d < 10 → list_any (needs_byte default_writer) ds ≡ false → list_any (needs_byte default_writer) (ds ++ (48 + d) ∷ []) ≡ false
plain-push d [] h e = rw (digit-plain d h) refl
plain-push d (b ∷ bs) h e = by (needs_byte default_writer b) refl (plain-push d bs h)
  where
    by : (c : Bool) → needs_byte default_writer b ≡ c → (list_any (needs_byte default_writer) bs ≡ false → list_any (needs_byte default_writer) (bs ++ (48 + d) ∷ []) ≡ false)
        → list_any (needs_byte default_writer) ((b ∷ bs) ++ (48 + d) ∷ []) ≡ false
    by true k more = let no = rw k at e in cc
    by false k more = rw k (more (rw k at e))

-- no digit
zero-value : value_after 0 [] ≡ Some 0
unfolding value_after
zero-value = refl

-- what `decimal` writes are the digits of a number
pub decimal-digits : (n : ℕ) → n < 2 ^ 64 → AreDigitsOf n (decimal n)
decimal-digits = decimal_by_steps AreDigitsOf one more
  where
    one : (n : ℕ) → n < 10 → AreDigitsOf n ((48 + n) ∷ [])
    one n h = record { value = rw (value-push 0 0 n [] h zero-value) (ap (λ (m : ℕ). Some m) (omega arith)); some = omega arith; plain = plain-push n [] h refl }

    more : (n : ℕ) (ds : List ℕ) → 10 ≤ n → AreDigitsOf (n / 10) ds → AreDigitsOf n (ds ++ ((48 + n % 10) ∷ []))
    more n ds h k =
        let small : n % 10 < 10 = omega arith in
        let back : n / 10 * 10 + n % 10 ≡ n = omega arith in
        record {
          value = rw (value-push 0 (n / 10) (n % 10) ds small k.value, back) refl;
          some = grind (arith, common_steps, k.some);
          plain = plain-push (n % 10) ds small k.plain;
        }

-- a number's digits are read as it
pub number-decimal : (n : ℕ) → n < 2 ^ 64 → number_of (decimal n) ≡ Some n
number-decimal n h =
    let ds = decimal-digits n h in
    let few : length (decimal n) ≤ 20 = length-decimal-le 20 n (omega arith) (omega arith) h in
    let some : 1 ≤ length (decimal n) = ds.some in
    is-number (decimal n) n (grind (arith, common_steps)) few h ds.value

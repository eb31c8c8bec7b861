-- Each line of a sweep is one line: no byte of it but the last ends it.
use Rattle.std.proofs.Common.{◌≡◌, ℕ, zero, suc, ◌+◌, ◌*◌, ◌/◌, ◌%◌, ◌<◌, ◌==◌, Bool, true, false, cond, List, [], ◌∷◌, ◌++◌, Option, None, Some, map, refl, sym, subst, arith, All, codes}
use Rattle.std.specs.Prelude.{decimal, nat_lt, if◌then◌else◌, unwrap_or}
use Rattle.std.specs.Fmt.{digit_glyph, digits, digits_onto}
use Rattle.std.specs.List.{list_all}
use Rattle.std.proofs.lemmas.Bool.{and_parts, ltb-true}
use Rattle.std.proofs.lemmas.List.Elements.{All-append, All-cons, All-map, All-nil, All-weaker}
use Rattle.rw_photo.specs.declared.config.Config.{Config}
use Rattle.rw_photo.specs.declared.counters.Counters.{Counters}
use Rattle.rw_ripq.specs.declared.Policy.{Policy}
use Rattle.rw_ripq.specs.declared.Policy.TheVariants.{Off, Lru, Slru}
use Rattle.rw_trace.specs.declared.Row.{Row}
use Rattle.rw_report.specs.declared.columns.Caches.{Caches}
use Rattle.rw_report.specs.declared.columns.Caches.TheVariants as whose
use Rattle.rw_report.specs.Columns.{caches_name, columns_of, counts_of, measured_columns, ratio_text, six_digits, those_of, with_decimals}
use Rattle.rw_report.specs.declared.columns.Measured.{Measured}
use Rattle.rw_sweep.specs.declared.choice.Choice.{Choice}
use Rattle.rw_sweep.specs.Joining.{IsLine, newline}
use Rattle.rw_sweep.specs.Sweep.{AreLinesOf}
use Rattle.rw_report.specs.Report.{totals}
use Rattle.rw_sweep.specs.Facts.{facts_of, span_of}
use Rattle.rw_sweep.specs.Table.{Conditions, choice_columns, conditions, conditions_columns, counted_span, daily_writes, if_some, line_with, measured, policy_name, sweep_line}

-- the bytes of digits, letters, commas and points
abbrev Plain : List ℕ → Type 0
Plain xs = All (λ b. 43 < b) xs

tested : (xs : List ℕ) → list_all (λ b. nat_lt 43 b) xs ≡ true → Plain xs
tested [] all = All-nil (λ b. 43 < b)
tested (x ∷ xs) all =
    let both = and_parts (nat_lt 43 x) (list_all (λ b. nat_lt 43 b) xs) all in
    All-cons (λ b. 43 < b) x xs (ltb-true 43 x both.0) (tested xs both.1)

joined : (xs ys : List ℕ) → Plain xs → Plain ys → Plain (xs ++ ys)
joined xs ys a b = All-append (λ b. 43 < b) xs ys a b

-- the bytes of digits
abbrev pub Digits : List ℕ → Type 0
Digits xs = All (λ b. 47 < b) xs

glyph : (d : ℕ) → 47 < digit_glyph false d
glyph d = by (nat_lt d 10)
  where
    by : (b : Bool) → 47 < cond b (48 + d) (87 + d)
    by true = omega arith
    by false = omega arith

onto : (k n : ℕ) (acc : List ℕ) → Digits acc → Digits (digits_onto k 10 false n acc)
onto zero n acc plain = plain
onto (suc k) n acc plain =
    let more : Digits (digit_glyph false (n % 10) ∷ acc) = All-cons (λ b. 47 < b) (digit_glyph false (n % 10)) acc (glyph (n % 10)) plain in
    by (n / 10 == 0) (digit_glyph false (n % 10) ∷ acc) (digits_onto k 10 false (n / 10) (digit_glyph false (n % 10) ∷ acc)) more (onto k (n / 10) (digit_glyph false (n % 10) ∷ acc) more)
  where
    by : (b : Bool) (xs ys : List ℕ) → Digits xs → Digits ys → Digits (cond b xs ys)
    by true xs ys one other = one
    by false xs ys one other = other

-- a number is written in digits
pub digits-decimal : (n : ℕ) → Digits (decimal n)
unfolding digits
digits-decimal n = onto 64 n [] (All-nil (λ b. 47 < b))

plain-decimal : (n : ℕ) → Plain (decimal n)
plain-decimal n = All-weaker (λ b. 47 < b) (λ b. 43 < b) (λ b l. omega arith) (decimal n) (digits-decimal n)

comma : Plain (codes ",")
comma = tested (codes ",") refl

columns : (ns : List ℕ) → Plain (columns_of ns)
columns [] = All-nil (λ b. 43 < b)
columns (n ∷ ns) = joined (codes "," ++ decimal n) (columns_of ns) (joined (codes ",") (decimal n) comma (plain-decimal n)) (columns ns)

name-of-policy : (p : Policy) → Plain (policy_name p)
name-of-policy Off = tested (codes "off") refl
name-of-policy Lru = tested (codes "lru") refl
name-of-policy (Slru levels) = joined (codes "slru") (decimal levels.segments) (tested (codes "slru") refl) (plain-decimal levels.segments)

name-of-caches : (w : Caches) → Plain (caches_name w)
name-of-caches whose.Edges = tested (codes "edges") refl
name-of-caches whose.Origins = tested (codes "origins") refl
name-of-caches whose.All = tested (codes "all") refl

decimals : (n : ℕ) → Plain (with_decimals n)
decimals n =
    joined (decimal (n / 1000000) ++ codes ".") (six_digits n) (joined (decimal (n / 1000000)) (codes ".") (plain-decimal (n / 1000000)) (tested (codes ".") refl)) (six n)
  where
    six : (n : ℕ) → Plain (six_digits n)
    six n = All-map (λ b. 43 < b) (λ unit. 48 + n / unit % 10) (100000 ∷ 10000 ∷ 1000 ∷ 100 ∷ 10 ∷ 1 ∷ []) (λ k d l. omega arith)

ratio : (part whole : ℕ) → Plain (ratio_text part whole)
ratio part whole = decimals (if whole == 0 then 0 else part * 1000000 / whole)

counts : (k : Counters) (m : Measured) → Plain (measured_columns k m)
counts k m =
    let first = columns_of (counts_of k) in
    let hits = ratio_text k.hits k.requests in
    let bytes = ratio_text k.hit_bytes k.request_bytes in
    let numbers = m.flash_bytes ∷ m.written_bytes ∷ m.backend_requests ∷ m.backend_bytes ∷ k.inserted_bytes ∷ [] in
    joined (first ++ codes "," ++ hits ++ codes "," ++ bytes) (columns_of numbers)
    (joined (first ++ codes "," ++ hits ++ codes ",") bytes
    (joined (first ++ codes "," ++ hits) (codes ",")
    (joined (first ++ codes ",") hits (joined first (codes ",") (columns (counts_of k)) comma) (ratio k.hits k.requests)) comma)
    (ratio k.hit_bytes k.request_bytes))
    (columns numbers)

some-decimals : (o : Option ℕ) → Plain (if_some o)
some-decimals None = All-nil (λ b. 43 < b)
some-decimals (Some n) = decimals n

ending : (c : Config) (n : Conditions) (m : Measured) → Plain (conditions_columns c n m)
ending c n m =
    let daily = daily_writes n.ticks_a_second (counted_span n) m.flash_bytes m.written_bytes in
    let numbers = cond c.reclaim 1 0 ∷ unwrap_or n.warm_up 0 ∷ unwrap_or n.ticks_a_second 0 ∷ n.facts.rows ∷ span_of n.facts ∷ n.facts.digest ∷ [] in
    joined (codes "," ++ if_some daily) (columns_of numbers) (joined (codes ",") (if_some daily) comma (some-decimals daily)) (columns numbers)

body_of : Config → Choice → Conditions → Caches → Counters → Counters → List ℕ
body_of c x n w k o = choice_columns x ++ codes "," ++ caches_name w ++ measured_columns k (measured c x w k o) ++ conditions_columns c n (measured c x w k o)

whole : (c : Config) (x : Choice) (n : Conditions) (w : Caches) (k o : Counters) → IsLine (line_with c x n w k o)
unfolding body_of
whole c x n w k o =
    let front = choice_columns x in
    let name = caches_name w in
    let m = measured c x w k o in
    let tail = measured_columns k m in
    let sizes = x.sections ∷ x.block ∷ x.edge_blocks ∷ x.origin_blocks ∷ x.edges ∷ x.origins ∷ x.up ∷ x.down ∷ x.back ∷ [] in
    let plain : Plain (body_of c x n w k o) =
    joined (front ++ codes "," ++ name ++ tail) (conditions_columns c n m)
    (joined (front ++ codes "," ++ name) tail
    (joined (front ++ codes ",") name
    (joined front (codes ",") (joined (policy_name x.policy) (columns_of sizes) (name-of-policy x.policy) (columns sizes)) comma)
    (name-of-caches w))
    (counts k m))
    (ending c n m) in
    record { body = body_of c x n w k o; ends = refl; one = All-weaker (λ b. 43 < b) (λ b. b ≡ newline → ⊥) (λ b l e. omega arith) (body_of c x n w k o) plain }

line-is : (c : Config) (x : Choice) (n : Conditions) (ks : List Counters) (w : Caches) → IsLine (sweep_line c x n ks w)
line-is c x n ks w = whole c x n w (totals (those_of c w ks)) (totals (those_of c whose.Origins ks))

-- the lines of a configuration
pub whole-lines : (c : Config) (x : Choice) (ticks : Option ℕ) (rows : List Row) (lines : List (List ℕ)) → AreLinesOf c x ticks rows lines → All IsLine lines
whole-lines c x ticks rows lines are =
    let ks : List Counters = map (λ s. s.counters) are.states in
    let n : Conditions = conditions ticks None (facts_of rows) in
    let e = sweep_line c x n ks whose.Edges in
    let o = sweep_line c x n ks whose.Origins in
    let a = sweep_line c x n ks whose.All in
    subst (All IsLine) (sym are.told)
    (All-cons IsLine e (o ∷ a ∷ []) (line-is c x n ks whose.Edges) (All-cons IsLine o (a ∷ []) (line-is c x n ks whose.Origins) (All-cons IsLine a [] (line-is c x n ks whose.All) (All-nil IsLine))))

-- There are no more blocks than serials below the next one.
use Rattle.std.proofs.Common.{◌≡◌, ℕ, zero, suc, ◌+◌, ◌≤◌, ◌<◌, List, [], ◌∷◌, refl, arith, Bool, true, false, cond, length, nat_eq, inl, inr}
use Rattle.std.specs.Prelude.{sum_by, count_by, ◌&&◌}
use Rattle.std.proofs.lemmas.List.Sums.{sum_by-cons, sum_by-le-sum_by, count_by-le-length}
use Rattle.std.proofs.lemmas.Bool.{cases_eq, cases_lt, eq-eqb, ne_eqb}
use Rattle.rw_blocks.specs.declared.Kind.{Kind}
use Rattle.rw_blocks.specs.declared.Kind.TheVariants.{Device, Virtual}
use Rattle.rw_blocks.specs.Sections.{SectionState, blocks_of, is_block, is_kind, has_serial, devices_in}
use Rattle.rw_blocks.specs.State.{QueueState}
use Rattle.rw_blocks.specs.Loose.{IsLoose, count_in, sealed_devices, block_count}

-- f at 0, at 1 and so on, up to below n
abbrev pub sum_below : (ℕ → ℕ) → ℕ → ℕ
sum_below f zero = 0
sum_below f (suc n) = f n + sum_below f n

sum_below-le : (f : ℕ → ℕ) (n : ℕ) → ((b : ℕ) → f b ≤ 1) → sum_below f n ≤ n
sum_below-le f zero each = omega arith
sum_below-le f (suc n) each = omega (arith, each n, sum_below-le f n each)

sum_below-zero : (n : ℕ) → sum_below (λ b. 0) n ≡ 0
sum_below-zero zero = refl
sum_below-zero (suc n) = omega (arith, sum_below-zero n)

sum_below-add : (f g h : ℕ → ℕ) (n : ℕ) → ((b : ℕ) → f b ≡ g b + h b) → sum_below f n ≡ sum_below g n + sum_below h n
sum_below-add f g h zero each = refl
sum_below-add f g h (suc n) each = omega (arith, each n, sum_below-add f g h n each)

abbrev pub at : ℕ → ℕ → ℕ
at e b = cond (nat_eq e b) 1 0

sum_below-none : (e n : ℕ) → n ≤ e → sum_below (at e) n ≡ 0
sum_below-none e zero le = refl
sum_below-none e (suc n) le =
    let other : at e n ≡ 0 = rw (ne_eqb e n (λ same. omega arith)) refl in
    omega (arith, other, sum_below-none e n (omega arith))

sum_below-one : (e n : ℕ) → e < n → sum_below (at e) n ≡ 1
sum_below-one e zero lt = absurd (omega arith)
sum_below-one e (suc n) lt =
    elim (cases_eq e n) [
      | inl same ↦ (let here : at e n ≡ 1 = rw (eq-eqb e n same) refl in omega (arith, here, sum_below-none e n (omega arith)))
      | inr other ↦ (let away : at e n ≡ 0 = rw (ne_eqb e n other) refl in omega (arith, away, sum_below-one e n (omega arith)))
    ]

-- how many blocks of the list have the serial
abbrev pub serials : ℕ → List (ℕ × Kind) → ℕ
serials b es = count_by (has_serial b) es

pub serials-cons : (b : ℕ) (e : ℕ × Kind) (es : List (ℕ × Kind)) → serials b (e ∷ es) ≡ at e.0 b + serials b es
serials-cons b e es = sum_by-cons (λ x. cond (has_serial b x) 1 0) e es

serials-length : (es : List (ℕ × Kind)) (n : ℕ) → ((b : ℕ) → n ≤ b → serials b es ≡ 0) → sum_below (λ b. serials b es) n ≡ length es
serials-length [] n none = sum_below-zero n
serials-length (e ∷ es) n none =
    let first : at e.0 e.0 ≡ 1 = rw (eq-eqb e.0 e.0 refl) refl in
    let lt : e.0 < n =
    elim (cases_lt e.0 n) [
      | inl lt ↦ lt
      | inr ge ↦ absurd (omega (arith, none e.0 ge, serials-cons e.0 e es, first))
    ] in
    let rest : sum_below (λ b. serials b es) n ≡ length es = serials-length es n (λ b ge. omega (arith, none b ge, serials-cons b e es)) in
    omega (arith, sum_below-add (λ b. serials b (e ∷ es)) (at e.0) (λ b. serials b es) n (λ b. serials-cons b e es), sum_below-one e.0 n lt, rest)

-- the same over sections
abbrev pub serials_in : ℕ → List SectionState → ℕ
serials_in b ss = sum_by (λ s. serials b (blocks_of s)) ss

abbrev pub blocks_in : List SectionState → ℕ
blocks_in ss = sum_by (λ s. length (blocks_of s)) ss

serials_in-blocks : (ss : List SectionState) (n : ℕ) → ((b : ℕ) → n ≤ b → serials_in b ss ≡ 0) → sum_below (λ b. serials_in b ss) n ≡ blocks_in ss
serials_in-blocks [] n none = sum_below-zero n
serials_in-blocks (s ∷ ss) n none =
    let split = λ (b : ℕ). sum_by-cons (λ s. serials b (blocks_of s)) s ss in
    let first : sum_below (λ b. serials b (blocks_of s)) n ≡ length (blocks_of s) = serials-length (blocks_of s) n (λ b ge. omega (arith, none b ge, split b)) in
    let rest : sum_below (λ b. serials_in b ss) n ≡ blocks_in ss = serials_in-blocks ss n (λ b ge. omega (arith, none b ge, split b)) in
    omega (arith, sum_below-add (λ b. serials_in b (s ∷ ss)) (λ b. serials b (blocks_of s)) (λ b. serials_in b ss) n split, first, rest, sum_by-cons (λ s. length (blocks_of s)) s ss)

-- a block is of one kind or the other
pub either_kind : (t : Bool) (k : Kind) → cond (t && is_kind Device k) 1 0 + cond (t && is_kind Virtual k) 1 0 ≡ cond t 1 0
either_kind true Device = refl
either_kind true Virtual = refl
either_kind false k = refl

pub kinds : (b : ℕ) (es : List (ℕ × Kind)) → count_by (is_block Device b) es + count_by (is_block Virtual b) es ≡ serials b es
kinds b [] = refl
kinds b (e ∷ es) =
    omega (arith, kinds b es, either_kind (has_serial b e) e.1, serials-cons b e es, sum_by-cons (λ x. cond (is_block Device b x) 1 0) e es, sum_by-cons (λ x. cond (is_block Virtual b x) 1 0) e es)

kinds_in : (b : ℕ) (ss : List SectionState) → sum_by (count_in Device b) ss + sum_by (count_in Virtual b) ss ≡ serials_in b ss
kinds_in b [] = refl
kinds_in b (s ∷ ss) =
    omega (arith, kinds_in b ss, kinds b (blocks_of s), sum_by-cons (count_in Device b) s ss, sum_by-cons (count_in Virtual b) s ss, sum_by-cons (λ s. serials b (blocks_of s)) s ss)

pub block_count-le-next : (q : QueueState) → IsLoose q → block_count q ≤ q.next
block_count-le-next q loose =
    omega (
      arith,
      serials_in-blocks q.sections q.next (λ b ge. omega (arith, kinds_in b q.sections, loose.below b ge)),
      sum_below-le (λ b. serials_in b q.sections) q.next (λ b. omega (arith, kinds_in b q.sections, loose.distinct b)),
    )

pub sealed_devices-le-next : (q : QueueState) → IsLoose q → sealed_devices q ≤ q.next
sealed_devices-le-next q loose =
    omega (arith, block_count-le-next q loose, sum_by-le-sum_by devices_in (λ s. length (blocks_of s)) q.sections (λ s. omega (arith, count_by-le-length (λ e. is_kind Device e.1) s.sealed)))

pub ruleset serial_laws = (block_count-le-next)

-- A part says its lines in one way only, so what the parts of a sweep make is the sweep.
use Rattle.std.proofs.Common.{◌≡◌, ℕ, suc, ◌^◌, ◌<◌, inl, inr, List, [], ◌∷◌, ◌++◌, length, codes, refl, sym, ap, subst, ◌∙◌, arith, All, append_assoc, length-append}
use Rattle.std.specs.Prelude.{decimal}
use Rattle.std.specs.List.{AllZip, flat_map}
use Rattle.std.proofs.lemmas.Bool.{cases_order}
use Rattle.std.proofs.lemmas.Fmt.{decimal_injective}
use Rattle.std.proofs.lemmas.List.{append_cancel_left}
use Rattle.std.proofs.lemmas.List.Elements.{All-head, All-tail, All-weaker}
use Rattle.rw_vt.specs.Words.{Position}
use Rattle.rw_sweep.specs.Grids.{combinations}
use Rattle.rw_sweep.specs.Joining.{IsLine, MakeTheSweep, PlacedLine, in_order_of_place, lines_of_all, lines_of_place, newline, part_with}
use Rattle.rw_sweep.specs.Limits.{most_configurations}
use Rattle.rw_sweep.specs.Parts.{part_header, placed_line}
use Rattle.rw_sweep.specs.Sweep.{IsSweepOf}
use Rattle.rw_sweep.proofs.Joining.{parts-make-the-sweep}
use Rattle.rw_sweep.specs.Join.{JoinOfPartsIsTheSweep}
use Rattle.rw_sweep.specs.PartLines.{IsPartWith, IsPartLine}
use Rattle.rw_sweep.proofs.Cuts.{back-of, first-at, front-of, no-comma}
use Rattle.rw_sweep.proofs.Gaining.{none-above}

taken-apart : (p : Position) (l r : List ℕ) → placed_line p l ++ r ≡ decimal p ++ 44 ∷ (l ++ r)
taken-apart p l r = append_assoc (decimal p ++ codes ",") l r ∙ append_assoc (decimal p) (codes ",") (l ++ r)

-- a line, and a place that a configuration can have
record IsPlaced (l : PlacedLine) : Type 0 where
  whole : IsLine l.line
  place : l.place < most_configurations

placed-part : (ls : List PlacedLine) → All IsPartLine ls → All IsPlaced ls
placed-part ls all = All-weaker IsPartLine IsPlaced (λ l is. record { whole = is.whole; place = is.place }) ls all

record SameLine (x y : PlacedLine) (r s : List ℕ) : Type 0 where
  line : x ≡ y
  rest : r ≡ s

one-line : (x y : PlacedLine) (r s : List ℕ) → IsPlaced x → IsPlaced y → placed_line x.place x.line ++ r ≡ placed_line y.place y.line ++ s → SameLine x y r s
one-line x y r s a b same =
    let numbers = first-at 44 (decimal x.place) (decimal y.place) (x.line ++ r) (y.line ++ s) (no-comma x.place) (no-comma y.place) (sym (taken-apart x.place x.line r) ∙ (same ∙ taken-apart y.place y.line s)) in
    let place : x.place ≡ y.place = decimal_injective x.place y.place (below x.place a.place) (below y.place b.place) numbers.front in
    let left : x.line ++ r ≡ a.whole.body ++ newline ∷ r = ap (λ t. t ++ r) a.whole.ends ∙ append_assoc a.whole.body (newline ∷ []) r in
    let right : y.line ++ s ≡ b.whole.body ++ newline ∷ s = ap (λ t. t ++ s) b.whole.ends ∙ append_assoc b.whole.body (newline ∷ []) s in
    let bodies = first-at newline a.whole.body b.whole.body r s a.whole.one b.whole.one (sym left ∙ (numbers.back ∙ right)) in
    let line : x.line ≡ y.line = a.whole.ends ∙ (ap (λ t. t ++ newline ∷ []) bodies.front ∙ sym b.whole.ends) in
    record { line = λ i. record { place = place i; line = line i }; rest = bodies.back }
  where
    below : (n : ℕ) → n < most_configurations → n < 2 ^ 64
    below n l = omega arith

text_of : List PlacedLine → List ℕ
text_of ls = flat_map (λ l. placed_line l.place l.line) ls

some : (p : Position) (l r : List ℕ) → placed_line p l ++ r ≡ [] → ⊥
some p l r none =
    let long : length (decimal p ++ 44 ∷ (l ++ r)) ≡ 0 = ap length (sym (taken-apart p l r) ∙ none) in
    let more : length (44 ∷ (l ++ r)) ≡ suc (length (l ++ r)) = refl in
    omega (arith, long, more, length-append (decimal p) (44 ∷ (l ++ r)))

same-lines : (xs ys : List PlacedLine) → All IsPlaced xs → All IsPlaced ys → text_of xs ≡ text_of ys → xs ≡ ys
unfolding text_of
same-lines [] [] a b same = refl
same-lines [] (y ∷ ys) a b same = absurd (some y.place y.line (text_of ys) (sym same))
same-lines (x ∷ xs) [] a b same = absurd (some x.place x.line (text_of xs) same)
same-lines (x ∷ xs) (y ∷ ys) a b same =
    let one = one-line x y (text_of xs) (text_of ys) (All-head IsPlaced x xs a) (All-head IsPlaced y ys b) same in
    let rest = same-lines xs ys (All-tail IsPlaced x xs a) (All-tail IsPlaced y ys b) one.rest in
    λ i. one.line i ∷ rest i

-- two readings of the same texts
same-parts : (texts : List (List ℕ)) (ps qs : List (List PlacedLine)) → AllZip IsPartWith texts ps → AllZip (λ text ls. text ≡ part_with ls) texts qs → All IsPlaced (lines_of_all qs) → ps ≡ qs
unfolding text_of
same-parts [] [] [] a b placed = refl
same-parts [] (p ∷ ps) qs a b placed = absurd a
same-parts [] [] (q ∷ qs) a b placed = absurd b
same-parts (t ∷ ts) [] qs a b placed = absurd a
same-parts (t ∷ ts) (p ∷ ps) [] a b placed = absurd b
same-parts (t ∷ ts) (p ∷ ps) (q ∷ qs) a b placed =
    let texts : text_of p ≡ text_of q = append_cancel_left part_header (text_of p) (text_of q) (sym a.0.told ∙ b.0) in
    let one = same-lines p q (placed-part p a.0.lines) (front-of IsPlaced q (lines_of_all qs) placed) texts in
    let rest = same-parts ts ps qs a.1 b.1 (back-of IsPlaced q (lines_of_all qs) placed) in
    λ i. one i ∷ rest i

-- as many places, by the same lines
same-count : (n m : ℕ) (ls : List PlacedLine) → All (λ l. l.place < n) ls → ((k : Position) → k < n → length (lines_of_place ls k) ≡ 3) → All (λ l. l.place < m) ls
    → ((k : Position) → k < m → length (lines_of_place ls k) ≡ 3) → n ≡ m
same-count n m ls a three_a b three_b =
    elim (cases_order n m) [
      | inl same ↦ same
      | inr other ↦ elim other [
        | inl less ↦ let none = ap length (none-above n n ls a (omega arith)) in let three = three_b n less in absurd (omega (arith, none, three))
        | inr more ↦ let none = ap length (none-above m m ls b (omega arith)) in let three = three_a m more in absurd (omega (arith, none, three))
      ]
    ]

pub join-of-parts : JoinOfPartsIsTheSweep
join-of-parts a bytes parts indices texts count text many once each few joined =
    let made : MakeTheSweep a bytes texts = parts-make-the-sweep a bytes parts indices texts many once each in
    let n : ℕ = length (combinations a) in
    let placed : All IsPlaced (lines_of_all made.parts) = λ k d l. record { whole = made.whole k d l; place = (let here = made.within k d l in omega (arith, here, few)) } in
    let same = same-parts texts joined.parts made.parts joined.have made.have placed in
    let lines : lines_of_all joined.parts ≡ lines_of_all made.parts = ap lines_of_all same in
    let within : All (λ l. l.place < count) (lines_of_all made.parts) = subst (All (λ l. l.place < count)) lines joined.within in
    let three : (k : Position) → k < count → length (lines_of_place (lines_of_all made.parts) k) ≡ 3 = subst (λ ls. (k : Position) → k < count → length (lines_of_place ls k) ≡ 3) lines joined.three in
    let counts : count ≡ n = same-count count n (lines_of_all made.parts) within three made.within made.three in
    subst (IsSweepOf a bytes) (sym (joined.told ∙ (λ i. in_order_of_place (counts i) (lines i)))) made.are

-- Each step of the board keeps its rule.
use Rattle.std.proofs.Common.{◌≡◌, ◌≢◌, ℕ, zero, suc, ◌+◌, ◌<◌, ◌≤◌, min, List, [], ◌∷◌, ◌++◌, length, get_or, set, sym, refl, ap, ◌∙◌, subst, ⊎_elim, le_refl, arith}
use mathlib.Core.Option.{some, some-injective, some-ne-none, none}
use mathlib.Core.Logic.{dite}
use native.Mathlib.Decide.{ℕ_discrete}
use lib.ListN.{get_elem?}
use Rattle.atomic_table.specs.Table.{State, Me, step, keeps, opening, Allows, Splits, Joins, Final, Seen}
use Rattle.atomic_table.proofs.Lists.{at_set, at_snoc, set_else}
use Rattle.rw_vt.specs.Limits.{end_of_time}
use Rattle.rw_board.specs.declared.rule.View.{View}
use Rattle.rw_board.specs.Least.{least}
use Rattle.rw_board.specs.Seats.{SeatState, all_notes}
use Rattle.rw_board.specs.Rule.{view, least_of_all, weights, KeepsRule, Notes, Reads, with_one_less, new_view, joined_view, spent_view}

pub least-END : (xs : List ℕ) → least xs ≤ end_of_time
least-END [] = le_refl end_of_time
least-END (x ∷ xs) = omega (arith, least-END xs)

pub least-append : (xs ys : List ℕ) → least (xs ++ ys) ≡ min (least xs) (least ys)
least-append [] ys = omega (arith, least-END ys)
least-append (x ∷ xs) ys = omega (arith, least-append xs ys)

all-END : (vs : List View) → least_of_all vs ≤ end_of_time
all-END [] = le_refl end_of_time
all-END (v ∷ vs) = omega (arith, all-END vs)

at_most : (vs : List View) (k : ℕ) (v : View) → get_elem? vs k ≡ some v → least_of_all vs ≤ least v.noted
at_most [] k v e = absurd (some-ne-none v (sym e))
at_most (x ∷ xs) zero v e = subst (λ (z : View). min (least x.noted) (least_of_all xs) ≤ least z.noted) (some-injective x v e) (omega arith)
at_most (x ∷ xs) (suc k) v e = omega (arith, at_most xs k v e)

at_least : (m : ℕ) (vs : List View) → m ≤ end_of_time → ((k : ℕ) (v : View) → get_elem? vs k ≡ some v → m ≤ least v.noted) → m ≤ least_of_all vs
at_least m [] h f = h
at_least m (x ∷ xs) h f = let a : m ≤ least x.noted = f zero x refl in let b : m ≤ least_of_all xs = at_least m xs h (λ k v e. f (suc k) v e) in omega arith

all_set : (vs : List View) (k t : ℕ) (v w : View) → get_elem? vs k ≡ some v → least w.noted ≡ min (least v.noted) t → least_of_all (set vs k w) ≡ min (least_of_all vs) t
all_set [] k t v w e h = absurd (some-ne-none v (sym e))
all_set (x ∷ xs) zero t v w e h = let s : least x.noted ≡ least v.noted = ap (λ (z : View). least z.noted) (some-injective x v e) in omega arith
all_set (x ∷ xs) (suc k) t v w e h = omega (arith, all_set xs k t v w e h)

all_snoc : (vs : List View) (w : View) → least w.noted ≡ end_of_time → least_of_all (vs ++ w ∷ []) ≡ least_of_all vs
all_snoc [] w h = omega arith
all_snoc (x ∷ xs) w h = omega (arith, all_snoc xs w h)

weights_set : (vs : List View) (k : ℕ) (v w : View) → get_elem? vs k ≡ some v → weights (set vs k w) + v.weight ≡ weights vs + w.weight
weights_set [] k v w e = absurd (some-ne-none v (sym e))
weights_set (x ∷ xs) zero v w e = let s : x.weight ≡ v.weight = ap (λ (z : View). z.weight) (some-injective x v e) in omega arith
weights_set (x ∷ xs) (suc k) v w e = omega (arith, weights_set xs k v w e)

weights_snoc : (vs : List View) (w : View) → weights (vs ++ w ∷ []) ≡ weights vs + w.weight
weights_snoc [] w = omega arith
weights_snoc (x ∷ xs) w = omega (arith, weights_snoc xs w)

weight_within : (vs : List View) (k : ℕ) (v : View) → get_elem? vs k ≡ some v → v.weight ≤ weights vs
weight_within [] k v e = absurd (some-ne-none v (sym e))
weight_within (x ∷ xs) zero v e = let s : x.weight ≡ v.weight = ap (λ (z : View). z.weight) (some-injective x v e) in omega arith
weight_within (x ∷ xs) (suc k) v e = omega (arith, weight_within xs k v e)

each_set : (P : View → Type 0) (vs : List View) (k : ℕ) (w : View) → P w → ((j : ℕ) (v : View) → get_elem? vs j ≡ some v → P v) → (j : ℕ) (v : View) → get_elem? (set vs k w) j ≡ some v → P v
each_set P vs k w p f j v e = ⊎_elim (λ (t : (j ≡ k) × (w ≡ v)). subst P t.1 p) (λ (t : (j ≢ k) × (get_elem? vs j ≡ some v)). f j v t.1) (at_set vs k j w v e)

each_snoc : (P : View → Type 0) (vs : List View) (w : View) → P w → ((j : ℕ) (v : View) → get_elem? vs j ≡ some v → P v) → (j : ℕ) (v : View) → get_elem? (vs ++ w ∷ []) j ≡ some v → P v
each_snoc P vs w p f j v e = ⊎_elim (λ (t : get_elem? vs j ≡ some v). f j v t) (λ (t : w ≡ v). subst P t p) (at_snoc vs w v j e)

set_there : (vs : List View) (k : ℕ) (v w : View) → get_elem? vs k ≡ some v → get_elem? (set vs k w) k ≡ some w
set_there [] k v w e = absurd (some-ne-none v (sym e))
set_there (x ∷ xs) zero v w e = refl
set_there (x ∷ xs) (suc k) v w e = set_there xs k v w e

-- where another seat has noted as little, what is left of a spent seat counts for nothing
all_spend : (vs : List View) (k j : ℕ) (w b : View) → j ≢ k → get_elem? vs k ≡ some w → get_elem? vs j ≡ some b → least b.noted ≤ least w.noted → least_of_all (set vs k spent_view) ≡ least_of_all vs
all_spend vs k j w b apart at there h =
    let here : get_elem? (set vs k spent_view) j ≡ some b = set_else vs k j spent_view apart ∙ there in
    let low : least_of_all (set vs k spent_view) ≤ least b.noted = at_most (set vs k spent_view) j b here in
    let up : least_of_all (set vs k spent_view) ≤ least_of_all vs = at_least (least_of_all (set vs k spent_view)) vs (all-END (set vs k spent_view))
    (λ i v e. dite (ℕ_discrete i k)
    (λ same. let s : some w ≡ some v = sym at ∙ (ap (get_elem? vs) (sym same) ∙ e) in subst (λ (z : View). least_of_all (set vs k spent_view) ≤ least z.noted) (some-injective w v s) (omega arith))
    (λ other. at_most (set vs k spent_view) i v (set_else vs k i spent_view other ∙ e))) in
    let down : least_of_all vs ≤ least_of_all (set vs k spent_view) = at_least (least_of_all vs) (set vs k spent_view) (all-END vs)
    (each_set (λ (u : View). least_of_all vs ≤ least u.noted) vs k spent_view (all-END vs) (λ i v e. at_most vs i v e)) in omega arith

-- one seat alone
each_one : (P : View → Type 0) (w : View) → P w → (j : ℕ) (v : View) → get_elem? (w ∷ []) j ≡ some v → P v
each_one P w p zero v e = subst P (some-injective w v e) p
each_one P w p (suc j) v e = absurd (some-ne-none v (sym e))

-- at the start
pub begins : (n : ℕ) → KeepsRule {S = Unit {0}} n (opening (end_of_time ∷ []) [] (view [] end_of_time n))
begins n = record {
  word = refl;
  bound = λ k v e _. each_one (λ (u : View). end_of_time ≤ u.read) (view [] end_of_time n) (le_refl end_of_time) k v e;
  spent = λ k v e _. each_one (λ (u : View). u.noted ≡ []) (view [] end_of_time n) refl k v e;
  whole = omega arith;
}

module _ {S : Type 0} where
  found_is : (n : ℕ) (s : State S View) → KeepsRule n s → get_or s.words 0 0 ≡ least_of_all s.views
  found_is n s kept = ap (λ (ws : List ℕ). get_or ws 0 0) kept.word

  pub notes : (n slots id t : ℕ) (m : Me S View) → 0 < m.0.weight → Allows (KeepsRule n) slots id m 0 (λ x. min x t) (Notes (step slots 0 t 0 none) m)
  notes n slots id t m heavy s kept homes at small =
      let w : View = view (m.0.noted ++ t ∷ []) m.0.read m.0.weight in
      let new : least w.noted ≡ min (least m.0.noted) t = omega (arith, least-append m.0.noted (t ∷ []), least-END m.0.noted) in
      let all : least_of_all (set s.views id w) ≡ min (least_of_all s.views) t = all_set s.views id t m.0 w at new in
      let lower : least_of_all (set s.views id w) ≤ least_of_all s.views = omega arith in
      let old : least_of_all s.views ≤ m.0.read = kept.bound id m.0 at heavy in (
        w,
        keeps,
        tt,
        record {
          word = subst (λ (ws : List ℕ). set ws 0 (min (get_or ws 0 0) t) ≡ least_of_all (set s.views id w) ∷ []) (sym kept.word) (ap (λ (x : ℕ). x ∷ []) (sym all));
          bound = each_set (λ (u : View). 0 < u.weight → least_of_all (set s.views id w) ≤ u.read) s.views id w (λ _. omega arith)
              (λ j v e h. let b : least_of_all s.views ≤ v.read = kept.bound j v e h in omega arith);
          spent = each_set (λ (u : View). u.weight ≡ 0 → u.noted ≡ []) s.views id w (λ z. absurd (omega arith)) kept.spent;
          whole = omega (arith, weights_set s.views id m.0 w at, kept.whole);
        },
        refl,
      )

  pub reads : (n slots id : ℕ) (m : Me S View) → 0 < m.0.weight → Allows (KeepsRule n) slots id m 0 (λ x. x) (Reads (step slots 0 0 0 none) m)
  reads n slots id m heavy s kept homes at small =
      let found : ℕ = get_or s.words 0 0 in
      let w : View = view m.0.noted found m.0.weight in
      let is : found ≡ least_of_all s.views = found_is n s kept in
      let own : least_of_all s.views ≤ least m.0.noted = at_most s.views id m.0 at in
      let high : least_of_all s.views ≤ end_of_time = all-END s.views in
      let new : least w.noted ≡ min (least m.0.noted) end_of_time = omega (arith, least-END m.0.noted) in
      let all : least_of_all (set s.views id w) ≡ least_of_all s.views = omega (arith, all_set s.views id end_of_time m.0 w at new) in
      let old : least_of_all s.views ≤ m.0.read = kept.bound id m.0 at heavy in (
        w,
        keeps,
        tt,
        record {
          word = subst (λ (ws : List ℕ). set ws 0 (get_or ws 0 0) ≡ least_of_all (set s.views id w) ∷ []) (sym kept.word) (ap (λ (x : ℕ). x ∷ []) (sym all));
          bound = each_set (λ (u : View). 0 < u.weight → least_of_all (set s.views id w) ≤ u.read) s.views id w (λ _. omega arith)
              (λ j v e h. let b : least_of_all s.views ≤ v.read = kept.bound j v e h in omega arith);
          spent = each_set (λ (u : View). u.weight ≡ 0 → u.noted ≡ []) s.views id w (λ z. absurd (omega arith)) kept.spent;
          whole = omega (arith, weights_set s.views id m.0 w at, kept.whole);
        },
        (refl, omega arith, omega arith, omega arith),
      )

  pub splits : (n id : ℕ) (v : View) → 1 < v.weight → Splits {S = S} (KeepsRule n) id v (with_one_less v) (new_view v)
  splits n id v heavy s kept at =
      let l : View = with_one_less v in let r : View = new_view v in
      let new : least l.noted ≡ min (least v.noted) end_of_time = omega (arith, least-END v.noted) in
      let one : least_of_all (set s.views id l) ≡ least_of_all s.views = omega (arith, all_set s.views id end_of_time v l at new, all-END s.views) in
      let all : least_of_all (set s.views id l ++ r ∷ []) ≡ least_of_all s.views = all_snoc (set s.views id l) r refl ∙ one in
      let old : least_of_all s.views ≤ v.read = kept.bound id v at (omega arith) in
      let high : least_of_all s.views ≤ end_of_time = all-END s.views in record {
        word = kept.word ∙ ap (λ (x : ℕ). x ∷ []) (sym all);
        bound = each_snoc (λ (u : View). 0 < u.weight → least_of_all (set s.views id l ++ r ∷ []) ≤ u.read) (set s.views id l) r (λ _. omega arith)
            (each_set (λ (u : View). 0 < u.weight → least_of_all (set s.views id l ++ r ∷ []) ≤ u.read) s.views id l (λ _. omega arith)
            (λ j u e h. let b : least_of_all s.views ≤ u.read = kept.bound j u e h in omega arith));
        spent = each_snoc (λ (u : View). u.weight ≡ 0 → u.noted ≡ []) (set s.views id l) r (λ z. absurd (omega arith))
            (each_set (λ (u : View). u.weight ≡ 0 → u.noted ≡ []) s.views id l (λ z. absurd (omega arith)) kept.spent);
        whole = omega (arith, weights_set s.views id v l at, weights_snoc (set s.views id l) r, kept.whole);
      }

  pub joins : (n id other : ℕ) (v w : View) → 0 < v.weight → 0 < w.weight → Joins {S = S} (KeepsRule n) id v other w (joined_view v w) spent_view
  joins n id other v w heavy weighty s kept at apart there =
      let b : View = joined_view v w in let vs : List View = set s.views id b in
      let was : get_elem? s.views other ≡ some w = sym (set_else s.views id other b apart) ∙ there in
      let new : least b.noted ≡ min (least v.noted) (least w.noted) = least-append v.noted w.noted in
      let first : least_of_all vs ≡ min (least_of_all s.views) (least w.noted) = all_set s.views id (least w.noted) v b at new in
      let low : least_of_all s.views ≤ least w.noted = at_most s.views other w was in
      let then : least_of_all (set vs other spent_view) ≡ least_of_all vs = all_spend vs other id w b (λ e. apart (sym e)) there (set_there s.views id v b at) (omega arith) in
      let all : least_of_all (set vs other spent_view) ≡ least_of_all s.views = omega arith in
      let one : least_of_all s.views ≤ v.read = kept.bound id v at heavy in
      let two : least_of_all s.views ≤ w.read = kept.bound other w was weighty in record {
        word = kept.word ∙ ap (λ (x : ℕ). x ∷ []) (sym all);
        bound = each_set (λ (u : View). 0 < u.weight → least_of_all (set vs other spent_view) ≤ u.read) vs other spent_view (λ z. absurd (omega arith))
            (each_set (λ (u : View). 0 < u.weight → least_of_all (set vs other spent_view) ≤ u.read) s.views id b (λ _. omega arith)
            (λ j u e h. let c : least_of_all s.views ≤ u.read = kept.bound j u e h in omega arith));
        spent = each_set (λ (u : View). u.weight ≡ 0 → u.noted ≡ []) vs other spent_view (λ _. refl)
            (each_set (λ (u : View). u.weight ≡ 0 → u.noted ≡ []) s.views id b (λ z. absurd (omega arith)) kept.spent);
        whole = omega (arith, weights_set s.views id v b at, weights_set vs other w spent_view there, kept.whole);
      }

  -- a seat with the whole weight has noted all that counts
  pub all_own : (n id : ℕ) (v : View) (s : State S View) → Seen (KeepsRule n) id v s → v.weight ≡ n → least_of_all s.views ≡ least v.noted
  all_own n id v s seen whole =
      let kept : KeepsRule n s = seen.0 in
      let others : weights (set s.views id spent_view) ≡ 0 = omega (arith, weights_set s.views id v spent_view seen.1, kept.whole) in
      let up : least_of_all s.views ≤ least v.noted = at_most s.views id v seen.1 in
      let down : least v.noted ≤ least_of_all s.views = at_least (least v.noted) s.views (least-END v.noted)
      (λ j u e. dite (ℕ_discrete j id)
      (λ same. let t : some v ≡ some u = sym seen.1 ∙ (ap (get_elem? s.views) (sym same) ∙ e) in subst (λ (z : View). least v.noted ≤ least z.noted) (some-injective v u t) (le_refl (least v.noted)))
      (λ other. let light : u.weight ≤ weights (set s.views id spent_view) = weight_within (set s.views id spent_view) j u (set_else s.views id j spent_view other ∙ e) in
      subst (λ (xs : List ℕ). least v.noted ≤ least xs) (sym (kept.spent j u e (omega arith))) (least-END v.noted))) in omega arith

  -- what the word is at the end
  pub ends : (n id word : ℕ) (v : View) (ws : List ℕ) (xs : List S) → Final (Seen (KeepsRule n) id v) ws xs → get_elem? ws 0 ≡ some word → v.weight ≡ n → 0 < n → (word ≡ least v.noted) × (word ≤ v.read)
  ends n id word v ws xs final at whole more =
      let s : State S View = final.0 in
      let seen : Seen (KeepsRule n) id v s = final.1 in
      let kept : KeepsRule n s = seen.0 in
      let is : least_of_all s.views ≡ word = some-injective (least_of_all s.views) word (subst (λ (zs : List ℕ). get_elem? zs 0 ≡ some word) kept.word (subst (λ (zs : List ℕ). get_elem? zs 0 ≡ some word) (sym final.2) at)) in
      let own : least_of_all s.views ≡ least v.noted = all_own n id v s seen whole in
      let read : least_of_all s.views ≤ v.read = kept.bound id v seen.1 (omega arith) in (omega arith, omega arith)

-- the least of all that was noted is at most the least that one seat noted. Crates above cite this
pub least_within : (ps : List SeatState) (i : ℕ) (d : SeatState) → i < length ps → least (all_notes ps) ≤ least (get_or ps i d).noted
least_within [] i d lt = absurd (omega arith)
least_within (p ∷ ps) zero d lt = omega (arith, least-append p.noted (all_notes ps))
least_within (p ∷ ps) (suc i) d lt = omega (arith, least-append p.noted (all_notes ps), least_within ps i d (omega arith))

-- The victim of an eviction: after its rows left, and the others were put again, it is free.
use Rattle.std.proofs.Common.{◌≡◌, ℕ, ◌≤◌, List, [], ◌∷◌, refl, sym, ap, subst, ◌∙◌, arith, Bool, true, false, get_or, nat_eq, inl, inr}
use Rattle.std.specs.Prelude.{Option, Some, None, sum_by, fold, filter}
use Rattle.std.specs.Option.{option_map}
use Rattle.std.specs.Map.{values_of, keys_of}
use Rattle.std.specs.List.{AllByRecursion}
use Rattle.std.proofs.lemmas.Bool.{ne_eqb}
use Rattle.std.proofs.lemmas.List.Elements.{recursion_from_All}
use Rattle.rw_blocks.specs.declared.Kind.{Kind}
use Rattle.rw_blocks.specs.declared.Kind.TheVariants.{Device, Virtual}
use Rattle.rw_blocks.specs.declared.Place.{Place}
use Rattle.rw_blocks.specs.State.{QueueState}
use Rattle.rw_blocks.specs.Loose.{IsLoose, IsFree, count}
use Rattle.rw_blocks.specs.Questions.{last_block}
use Rattle.rw_ripq.specs.Work.{Work}
use Rattle.rw_ripq.specs.Sealed.{is_sealed}
use Rattle.rw_ripq.specs.Evict.{without_rows, objects_placed, objects_homed, leave, reinsert, take_out, evict_last, evict_if_some}
use Rattle.rw_ripq.specs.Victim.{IsVictim, sealed_count, in_sealed}
use Rattle.rw_ripq.specs.Record.{HasHeadroom}
use Rattle.rw_ripq.proofs.Turns.{sealed_count-there}
use Rattle.rw_ripq.proofs.Folds.{fold-steps}
use Rattle.rw_ripq.proofs.Falls.{left-without, none-placed, none-homed, last-there, counted}
use Rattle.rw_ripq.proofs.Walks.{leave-keeps, throughout}
use Rattle.rw_ripq.proofs.Headroom.{keeps-room}

none_some : {X : Type 0} {v : X} → None ≡ Some v → ⊥
none_some e = cc

some_is : {X : Type 0} {u v : X} → Some u ≡ Some v → u ≡ v
some_is e = cc

-- the last sealed block is there
pub last-ready : (q : QueueState) (e : ℕ × Kind) → last_block q ≡ Some e → (1 ≤ sealed_count e.0 q) × (1 ≤ count e.1 q e.0)
last-ready q e is =
    elim (last-there None q.sections e is) [
      | inl bad ↦ absurd (none_some bad)
      | inr some ↦ counted q e some
    ]

first-is : (o : Option (ℕ × Kind)) (b : ℕ) → option_map (λ e. e.0) o ≡ Some b → (K : Kind) × (o ≡ Some (b, K))
first-is None b is = absurd (none_some is)
first-is (Some e) b is = (e.1, ap (λ n. Some (n, e.1)) (some_is is))

-- ---- after its rows left
victim-left : (q : QueueState) (b : ℕ) → IsLoose q → 1 ≤ sealed_count b q → IsVictim b (without_rows q (objects_placed q b))
victim-left q b loose some =
    let l = left-without (objects_placed q b) q b loose refl in
    let still : sealed_count b (without_rows q (objects_placed q b)) ≡ sealed_count b q = ap (sum_by (in_sealed b)) l.same in
    record { loose = l.loose; sealed = omega (arith, still, some); apart = none-placed (without_rows q (objects_placed q b)) b l.none }

none-kept : (t : Place → Bool) (es : List (ℕ × Place)) → AllByRecursion (λ r. t r ≡ false) (values_of es) → keys_of (filter (λ e. t e.1) es) ≡ []
none-kept t [] all = refl
none-kept t (e ∷ es) all = rw all.0 (none-kept t es all.1)

-- a virtual block is no row's home
no-home : (q : QueueState) (b : ℕ) → IsLoose q → 1 ≤ count Virtual q b → objects_homed q b ≡ []
no-home q b loose there =
    none-kept (λ r. nat_eq r.home b) q.rows (recursion_from_All (λ (r : Place). nat_eq r.home b ≡ false) (values_of q.rows) (λ k d lt.
    ne_eqb (get_or (values_of q.rows) k d).home b (λ e.
    let h : count Device q (get_or (values_of q.rows) k d).home ≡ 1 = loose.homes k d lt in
    let f : count Device q (get_or (values_of q.rows) k d).home ≡ count Device q b = ap (count Device q) e in
    absurd (omega (arith, h, f, there, loose.distinct b)))))

-- ---- the parts of an eviction of the last sealed block b
pub record Parts (w v : Work) (b : ℕ) : Type 0 where
  pub victim : IsVictim b v.queue
  pub room : HasHeadroom w → HasHeadroom v
  pub sealed : is_sealed (fold reinsert v (objects_homed v.queue b)).queue b ≡ true
  pub free : IsFree (fold reinsert v (objects_homed v.queue b)).queue b
  pub loose : IsLoose (fold reinsert v (objects_homed v.queue b)).queue
  pub whole : take_out (fold reinsert v (objects_homed v.queue b)) b ≡ evict_last w

whole-of : (w : Work) (b : ℕ) (K : Kind) → IsLoose w.queue → 1 ≤ count K w.queue b
    → take_out (fold reinsert (leave w (objects_placed w.queue b)) (objects_homed (leave w (objects_placed w.queue b)).queue b)) b ≡ evict_if_some (Some (b, K)) w
whole-of w b Device loose there = refl
whole-of w b Virtual loose there =
    let v : Work = leave w (objects_placed w.queue b) in
    let l = left-without (objects_placed w.queue b) w.queue b loose refl in
    let still : count Virtual v.queue b ≡ count Virtual w.queue b = ap (λ ss. count Virtual (record w.queue { sections = ss }) b) l.same in
    ap (λ os. take_out (fold reinsert v os) b) (no-home v.queue b l.loose (omega (arith, still, there)))

pub parts-of : (w v : Work) (b : ℕ) → IsLoose w.queue → option_map (λ e. e.0) (last_block w.queue) ≡ Some b → v ≡ leave w (objects_placed w.queue b) → Parts w v b
parts-of w v b loose first left =
    let last = first-is (last_block w.queue) b first in
    let ready = last-ready w.queue (b, last.0) last.1 in
    let u : Work = leave w (objects_placed w.queue b) in
    let victim : IsVictim b u.queue = victim-left w.queue b loose ready.0 in
    let s = fold-steps (objects_homed u.queue b) u b victim refl in
    subst (λ v. Parts w v b) (sym left)
    (record {
      victim = victim;
      room = λ g. leave-keeps (throughout keeps-room) (objects_placed w.queue b) w (b, last.0) loose last.1 refl g;
      sealed = sealed_count-there (fold reinsert u (objects_homed u.queue b)).queue b s.victim.sealed;
      free = λ k d lt. (none-homed (fold reinsert u (objects_homed u.queue b)).queue b s.rest k d lt, s.victim.apart k d lt);
      loose = s.victim.loose;
      whole = whole-of w b last.0 loose ready.1 ∙ ap (λ o. evict_if_some o w) (sym last.1);
    })

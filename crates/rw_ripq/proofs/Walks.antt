-- What each small step of an eviction keeps, the eviction keeps.
use Rattle.std.proofs.Common.{◌≡◌, ℕ, ◌+◌, ◌≤◌, List, [], ◌∷◌, refl, sym, ap, subst, arith, length, get_or, nat_eq, inl, inr, suc, zero}
use Rattle.std.specs.Prelude.{Option, Some, None, fold, sum_by}
use Rattle.std.specs.Map.{values_of}
use Rattle.std.proofs.lemmas.Bool.{eqb-true}
use Rattle.rw_blocks.proofs.Cited.{IsLoose-after_remove}
use Rattle.rw_blocks.specs.Loose.{IsFree, IsLoose, count, count_in}
use Rattle.rw_blocks.specs.Primitives.{after_remove}
use Rattle.rw_blocks.specs.Questions.{last_block}
use Rattle.rw_blocks.specs.State.{QueueState, row_at}
use Rattle.rw_blocks.specs.declared.Kind.{Kind}
use Rattle.rw_blocks.specs.declared.Kind.TheVariants.{Device, Virtual}
use Rattle.rw_blocks.specs.declared.Place.{Place}
use Rattle.rw_ripq.proofs.Basics.{by_bool, none_some}
use Rattle.rw_ripq.proofs.Falls.{Left, counted, last-there, none-homed, none-placed, others-after_remove, turn-falls, left-without}
use Rattle.rw_ripq.proofs.Folds.{Steps, fold-steps, reinsert-steps}
use Rattle.rw_ripq.proofs.Turns.{first-there}
use Rattle.rw_ripq.specs.Evict.{evict, evict_block, evict_if_some, evict_last, evict_within, is_over, leave, objects_homed, objects_placed, reinsert, take_out, without_rows}
use Rattle.rw_ripq.specs.Victim.{IsVictim, in_sealed, sealed_count}
use Rattle.rw_ripq.specs.Work.{Work}

-- one row leaves
abbrev pub left_one : Work → ℕ → Work
left_one w o = record { queue = after_remove w.queue o; tally = record w.tally { evicted = w.tally.evicted + 1 } }

-- what holds of the work so far, and what holds while a block is the victim: its rows leave, those of its rows that are
-- placed elsewhere are put again, and it is taken out
pub record KeepsBy (Good : Work → Type 0) (Half : ℕ → Work → Type 0) : Type 0 where
  pub begins : (w : Work) (e : ℕ × Kind) → IsLoose w.queue → last_block w.queue ≡ Some e → Good w → Half e.0 w
  pub leaves : (w : Work) (e : ℕ × Kind) (o : ℕ) (r : Place) → IsLoose w.queue → last_block w.queue ≡ Some e → row_at w.queue o ≡ Some r → r.place ≡ e.0 → Half e.0 w → Half e.0 (left_one w o)
  pub reputs : (w : Work) (b o : ℕ) (r : Place) (os : List ℕ) → IsVictim b w.queue → objects_homed w.queue b ≡ o ∷ os → row_at w.queue o ≡ Some r → r.home ≡ b → Half b w → Half b (reinsert w o)
  pub outs : (w : Work) (b : ℕ) → IsLoose w.queue → 1 ≤ sealed_count b w.queue → IsFree w.queue b → Half b w → Good (take_out w b)

-- the same holds throughout
pub record Keeps (Good : Work → Type 0) : Type 0 where
  pub leaves : (w : Work) (e : ℕ × Kind) (o : ℕ) (r : Place) → IsLoose w.queue → last_block w.queue ≡ Some e → row_at w.queue o ≡ Some r → r.place ≡ e.0 → Good w → Good (left_one w o)
  pub reputs : (w : Work) (b o : ℕ) (r : Place) (os : List ℕ) → IsVictim b w.queue → objects_homed w.queue b ≡ o ∷ os → row_at w.queue o ≡ Some r → r.home ≡ b → Good w → Good (reinsert w o)
  pub outs : (w : Work) (b : ℕ) → IsLoose w.queue → 1 ≤ sealed_count b w.queue → IsFree w.queue b → Good w → Good (take_out w b)

abbrev pub Throughout : (Work → Type 0) → ℕ → Work → Type 0
Throughout Good b w = Good w

pub throughout : {Good : Work → Type 0} → Keeps Good → KeepsBy Good (Throughout Good)
throughout keeps = record { begins = λ w e loose last g. g; leaves = keeps.leaves; reputs = keeps.reputs; outs = keeps.outs }

pub same-leave : (w : Work) → leave w [] ≡ w
same-leave w = ap (λ n. record { queue = w.queue; tally = record w.tally { evicted = n } }) (let z : w.tally.evicted + 0 ≡ w.tally.evicted = omega arith in z)

pub leave-more : (w : Work) (o : ℕ) (os : List ℕ) → leave (left_one w o) os ≡ leave w (o ∷ os)
leave-more w o os = ap (λ n. record { queue = without_rows w.queue (o ∷ os); tally = record w.tally { evicted = n } }) (let z : w.tally.evicted + 1 + length os ≡ w.tally.evicted + length (o ∷ os) = omega arith in z)

module _ {Good : Work → Type 0} {Half : ℕ → Work → Type 0} where
  pub leave-keeps : KeepsBy Good Half → (os : List ℕ) (w : Work) (e : ℕ × Kind) → IsLoose w.queue → last_block w.queue ≡ Some e → objects_placed w.queue e.0 ≡ os → Half e.0 w → Half e.0 (leave w os)
  leave-keeps keeps [] w e loose last is g = subst (Half e.0) (sym (same-leave w)) g
  leave-keeps keeps (o ∷ os) w e loose last is g =
      let f = first-there (λ x. nat_eq x.1.place e.0) w.queue.rows o os loose.ordered is in
      let g1 : Half e.0 (left_one w o) = keeps.leaves w e o f.0 loose last f.1 (eqb-true f.0.place e.0 f.2) g in
      subst (Half e.0) (leave-more w o os)
      (leave-keeps keeps os (left_one w o) e (IsLoose-after_remove w.queue o loose) last (others-after_remove (λ x. nat_eq x.1.place e.0) w.queue.rows o os loose.ordered is) g1)

  reputs-keep : KeepsBy Good Half → (os : List ℕ) (w : Work) (b : ℕ) → IsVictim b w.queue → objects_homed w.queue b ≡ os → Half b w → Half b (fold reinsert w os)
  reputs-keep keeps [] w b v is g = g
  reputs-keep keeps (o ∷ os) w b v is g =
      let f = first-there (λ x. nat_eq x.1.home b) w.queue.rows o os v.loose.ordered is in
      let s = reinsert-steps w.queue b o os v is in
      reputs-keep keeps os (reinsert w o) b s.victim s.rest (keeps.reputs w b o f.0 os v is f.1 (eqb-true f.0.home b f.2) g)

  block-keeps : KeepsBy Good Half → (K : Kind) (b : ℕ) (w : Work) → IsLoose w.queue → last_block w.queue ≡ Some (b, K) → 1 ≤ sealed_count b w.queue → 1 ≤ count K w.queue b → Good w → Good (evict_block K b w)
  block-keeps keeps Virtual b w loose last some there g =
      let q : QueueState = w.queue in
      let os : List ℕ = objects_placed q b in
      let l : Left b (without_rows q os) q.sections = left-without os q b loose refl in
      let q1 : QueueState = without_rows q os in
      let still : sealed_count b q1 ≡ sealed_count b q = ap (sum_by (in_sealed b)) l.same in
      let counts : count Virtual q1 b ≡ count Virtual q b = ap (sum_by (count_in Virtual b)) l.same in
      keeps.outs (leave w os) b l.loose (omega (arith, still, some)) (λ k d lt. (
        (λ e. (let h : count Device q1 (get_or (values_of q1.rows) k d).home ≡ 1 = l.loose.homes k d lt in let f : count Device q1 (get_or (values_of q1.rows) k d).home ≡ count Device q1 b = ap (count Device q1) e in absurd (omega (arith, h, f, counts, there, l.loose.distinct b)))),
        none-placed q1 b l.none k d lt,
      ))
      (leave-keeps keeps os w (b, Virtual) loose last refl (keeps.begins w (b, Virtual) loose last g))
  block-keeps keeps Device b w loose last some there g =
      let q : QueueState = w.queue in
      let os : List ℕ = objects_placed q b in
      let l : Left b (without_rows q os) q.sections = left-without os q b loose refl in
      let left : Work = leave w os in
      let q1 : QueueState = without_rows q os in
      let still : sealed_count b q1 ≡ sealed_count b q = ap (sum_by (in_sealed b)) l.same in
      let v : IsVictim b q1 = record { loose = l.loose; sealed = omega (arith, still, some); apart = none-placed q1 b l.none } in
      let s : Steps b q1 (fold reinsert left (objects_homed q1 b)).queue [] = fold-steps (objects_homed q1 b) left b v refl in
      let q2 : QueueState = (fold reinsert left (objects_homed q1 b)).queue in
      keeps.outs (fold reinsert left (objects_homed q1 b)) b s.victim.loose s.victim.sealed (λ k d lt. (none-homed q2 b s.rest k d lt, s.victim.apart k d lt))
      (reputs-keep keeps (objects_homed q1 b) left b v refl (leave-keeps keeps os w (b, Device) loose last refl (keeps.begins w (b, Device) loose last g)))

  pub last-keeps : KeepsBy Good Half → (o : Option (ℕ × Kind)) (w : Work) → last_block w.queue ≡ o → IsLoose w.queue → Good w → Good (evict_if_some o w)
  last-keeps keeps None w is loose g = g
  last-keeps keeps (Some e) w is loose g = elim (last-there None w.queue.sections e is) [
    | inl bad ↦ absurd (none_some bad)
    | inr some ↦ (let c = counted w.queue e some in block-keeps keeps e.1 e.0 w loose is c.0 c.1 g)
  ]

  pub within-keeps : KeepsBy Good Half → (n : ℕ) (w : Work) → IsLoose w.queue → Good w → IsLoose (evict_within n w).queue × Good (evict_within n w)
  within-keeps keeps zero w loose g = (loose, g)
  within-keeps keeps (suc n) w loose g =
      by_bool (is_over w.queue)
      (λ t. rw (t, evict_within) (within-keeps keeps n (evict_last w) (turn-falls.good w loose t) (last-keeps keeps (last_block w.queue) w refl loose g)))
      (λ f. rw (f, evict_within) (loose, g))

  pub evict-loose : KeepsBy Good Half → (w : Work) → IsLoose w.queue → Good w → IsLoose (evict w).queue
  evict-loose keeps w loose g = (within-keeps keeps _ w loose g).0

  pub evict-keeps : KeepsBy Good Half → (w : Work) → IsLoose w.queue → Good w → Good (evict w)
  evict-keeps keeps w loose g = (within-keeps keeps _ w loose g).1

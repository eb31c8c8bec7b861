-- One step of putting a victim's rows again.
use Rattle.std.proofs.Common.{◌≡◌, ℕ, ◌≤◌, List, ◌∷◌, refl, sym, subst, arith, nat_eq}
use Rattle.std.specs.Prelude.{Some, fold}
use Rattle.std.proofs.lemmas.Bool.{eqb-true}
use Rattle.rw_blocks.specs.State.{QueueState, row_at}
use Rattle.rw_blocks.specs.declared.Place.{Place}
use Rattle.rw_ripq.specs.Work.{Work}
use Rattle.rw_ripq.specs.Evict.{displaced_rows, objects_homed, reinsert}
use Rattle.rw_ripq.specs.Victim.{IsVictim}
use Rattle.rw_ripq.specs.Record.{HasHeadroom}
use Rattle.rw_ripq.proofs.Turns.{first-there}
use Rattle.rw_ripq.proofs.Folds.{reinsert-steps, reinsert-row}
use Rattle.rw_ripq.proofs.Headroom.{room-reinserted}

pub record Back (b o : ℕ) (os : List ℕ) (w v : Work) : Type 0 where
  pub victim : IsVictim b v.queue
  pub rest : objects_homed v.queue b ≡ os
  pub same : fold reinsert v os ≡ fold reinsert w (o ∷ os)
  pub room : HasHeadroom v

pub first-homed : (q : QueueState) (b o : ℕ) (os : List ℕ) → IsVictim b q → objects_homed q b ≡ o ∷ os → (r : Place) × (row_at q o ≡ Some r) × (r.home ≡ b)
first-homed q b o os victim is = let f = first-there (λ e. nat_eq e.1.home b) q.rows o os victim.loose.ordered is in (f.0, f.1, eqb-true f.0.home b f.2)

back-step : (w : Work) (b o : ℕ) (os : List ℕ) → IsVictim b w.queue → objects_homed w.queue b ≡ o ∷ os → HasHeadroom w → Back b o os w (reinsert w o)
back-step w b o os victim is room =
    let f = first-homed w.queue b o os victim is in
    let s = reinsert-steps w.queue b o os victim is in
    record {
      victim = s.victim;
      rest = s.rest;
      same = refl;
      room = room-reinserted w b o f.0 os victim is f.1 f.2 room;
    }

pub back-made : (w v : Work) (b o : ℕ) (os : List ℕ) → IsVictim b w.queue → objects_homed w.queue b ≡ o ∷ os → HasHeadroom w → v ≡ reinsert w o → Back b o os w v
back-made w v b o os victim is room made = subst (λ v. Back b o os w v) (sym made) (back-step w b o os victim is room)

-- the row was displaced
pub back-some : (q : QueueState) (b o : ℕ) (os : List ℕ) → IsVictim b q → objects_homed q b ≡ o ∷ os → 1 ≤ displaced_rows q
back-some q b o os victim is =
    let f = first-homed q b o os victim is in
    let r = reinsert-row q b o f.0 os victim is f.1 f.2 in
    omega (arith, r.lower)

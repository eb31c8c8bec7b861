-- What a letter's test says.
use Rattle.std.proofs.Common.{◌≡◌, Bool, true, false, sym, true≢false}
use Rattle.std.specs.Prelude.{◌&&◌, nat_le}
use Rattle.std.proofs.lemmas.Bool.{leb-true}
use Rattle.rw_vt.specs.declared.event.Letter.{Letter}
use Rattle.rw_vt.specs.System.{Rules}
use Rattle.rw_rounds.specs.Deeds.{IsFair}
use Rattle.rw_rounds.specs.Turns.{Role, is_own, is_accepted}

pub both_hold : (a b : Bool) → (a && b) ≡ true → (a ≡ true) × (b ≡ true)
both_hold true true h = (h, h)
both_hold true false h = absurd (true≢false (sym h))
both_hold false b h = absurd (true≢false (sym h))

module _ {S B : Type 0} (y : Rules S B) (r : Role) (l : Letter B) (pass : is_accepted y r l ≡ true) where
  pub passes_own : is_own r l ≡ true
  passes_own =
      let first = both_hold (y.valid l.event) (is_own r l && nat_le r.collected l.event.time) pass in
      (both_hold (is_own r l) (nat_le r.collected l.event.time) first.1).0

  pub passes_fair : IsFair y r.collected l
  passes_fair =
      let first = both_hold (y.valid l.event) (is_own r l && nat_le r.collected l.event.time) pass in
      record { valid = first.0; from = leb-true r.collected l.event.time (both_hold (is_own r l) (nat_le r.collected l.event.time) first.1).1 }

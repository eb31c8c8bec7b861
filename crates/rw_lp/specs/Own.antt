-- What holds of what is pending, owed and held at a process.
use Rattle.std.specs.Prelude.{List, All}
use Rattle.std.specs.declared.cmp.Ordering.{Ordering}
use Rattle.rw_vt.specs.declared.event.Event.{Event}
use Rattle.rw_vt.specs.declared.model.Model.{Ghosts}
use Rattle.rw_vt.specs.Order.{event_cmp, AtMost, Each}
use Rattle.rw_vt.specs.System.{rules}
use Rattle.rw_lp.specs.declared.held.Held.{Held}
use Rattle.rw_lp.specs.Past.{HistoryState, IsFor, done_in}
use Rattle.rw_lp.specs.Sound.{IsHeldFor}

-- what is pending and owed is for the process; what is held is later and valid, and hangs on a pending event that is
-- less than no done one
pub record AreFor {M S B U : Type 0} (model : Ghosts M S B U) (order : B → B → Ordering)
    (x : HistoryState M S B) (ps ds : List (Event B)) (hs : List (Held B)) : Type 0 where
  pub pending : Each (event_cmp order) (IsFor model x.model x.number) ps
  pub debts : Each (event_cmp order) (IsFor model x.model x.number) ds
  pub held : All (IsHeldFor (rules model order x.model) ps) hs
  pub late : All
      (λ h. Each (event_cmp order) (λ e. AtMost (event_cmp order) e h.undone) (done_in x)) hs

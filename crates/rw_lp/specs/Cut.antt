-- What a history keeps in its box: all done events in one list with a cut.
use Rattle.std.specs.Prelude.{◌≡◌, ◌≤◌, [], length, take, drop}
use Rattle.std.specs.declared.cmp.Ordering.{Ordering}
use Rattle.rw_vt.specs.declared.event.Event.{Event}
use Rattle.rw_vt.specs.declared.model.Model.{Ghosts}
use Rattle.rw_lp.specs.declared.history.Past.{Past}
use Rattle.rw_lp.specs.Past.{HistoryState, history_of, IsLinked}

-- what contracts see of it: what stands before the cut is committed, and the rest is processed
abbrev pub seen_of : {M S B U : Type 0} → Past M S B U → HistoryState M S B
seen_of p =
    history_of p.model.value p.number p.start.value (take p.cut p.done.items)
    (drop p.cut p.done.items) p.state

-- the cut stands within all done events, the records take back what is processed, and no sends wait
pub record IsKept {M S B U : Type 0} (model : Ghosts M S B U) (cmp : Event B → Event B → Ordering)
    (p : Past M S B U) : Type 0 where
  pub within : p.cut ≤ length p.done.items
  pub linked : IsLinked model cmp (seen_of p) p.records
  pub nothing_waits : p.sends.items ≡ []

-- All processes at once: what they do to a world, in whatever order letters go.
use Rattle.std.specs.Prelude.{◌≡◌, ◌+◌, ◌<◌, List, ◌++◌, slice_get}
use Rattle.rw_vt.specs.Words.{Process}
use Rattle.rw_vt.specs.declared.event.Event.{Event}
use Rattle.rw_vt.specs.declared.event.Letter.{Letter}
use Rattle.rw_vt.specs.Letters.{messages, antis}
use Rattle.rw_vt.specs.System.{System, map_from, flatten}
use Rattle.rw_lp.specs.Sound.{KeptAt}
use Rattle.rw_world.specs.WorldState.{WorldState}

-- the letters of each process, joined
abbrev pub all_letters : {S B : Type 0} → System S B → (Process → List (Letter B)) → List (Letter B)
all_letters y f = flatten (map_from 0 (λ q _. f q) y.starts)

-- each process q took up `came q` and gave out `out q`, and the letters before, with what was given out, are those
-- taken up with those that are left
pub record Exchanged {S B : Type 0} (y : System S B) (w v : WorldState S B)
    (came out : Process → List (Letter B)) : Type 0 where
  pub collected : v.collected ≡ w.collected
  pub kept : (q : Process)
      → KeptAt y.rules w.collected q (slice_get w.processes q) (slice_get v.processes q) (came q)
      (out q)
  pub messages_are : (e : Event B)
      → messages y.rules.order e (w.letters ++ all_letters y out)
      ≡ messages y.rules.order e (all_letters y came ++ v.letters)
  pub antis_are : (e : Event B)
      → antis y.rules.order e (w.letters ++ all_letters y out)
      ≡ antis y.rules.order e (all_letters y came ++ v.letters)
  pub come_here : (q : Process) (e : Event B)
      → 0 < messages y.rules.order e (came q) + antis y.rules.order e (came q) → e.to ≡ q

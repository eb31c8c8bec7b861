use Rattle.std.proofs.Common.{◌≡◌, ◌+◌}
use Rattle.std.proofs.Math.ListN.{take}
use Rattle.rw_vt.specs.declared.event.Event.{Event}
use Rattle.rw_vt.specs.Order.{event_cmp, copies}
use Rattle.rw_vt.specs.Letters.{messages, antis}
use Rattle.rw_world.proofs.rest.sort_letters.Given as goal

abbrev pub invariant-loop-letter : goal.invariant-loop-letter
invariant-loop-letter g l = record {
  there : (e : Event g.row.B.Denot) → copies (event_cmp g.B.Ord.cmp) e l.there.items ≡ copies (event_cmp g.B.Ord.cmp) e l.fn.there.items + messages (event_cmp g.B.Ord.cmp) e (take l.letter-index l.letters);
  owed : (e : Event g.row.B.Denot) → copies (event_cmp g.B.Ord.cmp) e l.owed.items ≡ copies (event_cmp g.B.Ord.cmp) e l.fn.owed.items + antis (event_cmp g.B.Ord.cmp) e (take l.letter-index l.letters);
}

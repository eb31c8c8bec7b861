use Rattle.std.proofs.lemmas.List.Elements.{All-head, All-rest, All-same}
use Rattle.rw_sweep.specs.Working.{IsEntryOf}
use Rattle.std.proofs.Common.{sym}
use Rattle.rw_sweep.proofs.working.place_all.Goals as goal

pub loop-entry-preserved : goal.loop-entry-preserved
loop-entry-preserved c =
    record {
      slots = c.place.ensures;
      entries = All-rest (IsEntryOf c.args._rows.now c.args._points.now) _ _ _ c.in-Some.ensures.steps.0 c.loop-entry.invariant.entries;
    }

pub place-requires : goal.place-requires
place-requires c =
    let P = IsEntryOf c.args._rows.now c.args._points.now in
    record {
      slots = c.loop-entry.invariant.slots;
      entry = All-head P c.in-Some.entry _ (All-same P _ _ (sym c.in-Some.ensures.steps.0) c.loop-entry.invariant.entries);
    }

use Rattle.std.proofs.Common.{List, subst}
use Rattle.std.proofs.lemmas.List.{get_or_read}
use Rattle.std.proofs.lemmas.List.Elements.{All-same, All-push}
use Rattle.rw_trace.specs.declared.Row.{Row}
use Rattle.rw_sweep.specs.declared.entry.Entry.{Entry}
use Rattle.rw_sweep.specs.declared.point.Point.{Point}
use Rattle.rw_sweep.specs.Working.{IsEntryOf, IsResultOf}
use Rattle.rw_sweep.proofs.working.work.Goals as goal

pub loop-preserved : goal.loop-preserved
loop-preserved g c =
    let rows : List Row = c.args.rows.now in
    let points : List Point = c.args.points.now in
    let entry : Entry = record { index = c.fetch_add-index.result; lines = c.run_one-lines.result } in
    let is : IsEntryOf rows points entry = λ p l. subst (λ q. IsResultOf rows q entry.lines) (get_or_read points entry.index c.index-points-index.result l c.index-points-index.is p) c.run_one-lines.ensures in
    All-same (IsEntryOf rows points) _ _ c.in_ok-push.ensures.items (All-push (IsEntryOf rows points) c.loop.entries.items entry c.loop.invariant is)

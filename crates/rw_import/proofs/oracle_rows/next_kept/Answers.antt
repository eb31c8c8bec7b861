-- One more record is left out, or there is none.
use Rattle.std.proofs.Common.{ℕ, refl, subst}
use Rattle.rw_trace.proofs.Piecewise.{where_none, where_some}
use Rattle.rw_import.specs.Log.{Saying}
use Rattle.rw_import.specs.OracleStream.{TellsPiece}
use Rattle.rw_import.proofs.OracleOrder.{leaves-all, leaves-more}
use Rattle.rw_import.proofs.oracle_rows.next_kept.Goals as goal

pub returns-in_default-next-clause-none : goal.returns-in_default-next-clause-none
returns-in_default-next-clause-none g c =
    let rem = g.R.Read.remaining in
    let ended = where_none c.in_default-next.is c.in-Ok.ensures.none in
    leaves-all c.args.options c.args.epoch.now c.loop-at.epoch c.args.number.now c.loop-at.at (rem c.args.reader.now) (rem c.loop-at.reader) c.loop-at.invariant.leaves ended.0

pub loop-at-preserved : goal.loop-at-preserved
loop-at-preserved g c =
    let rem = g.R.Read.remaining in
    let o = c.args.options in
    let before = rem c.loop-at.reader in
    let new = rem c.next_told.new.reader in
    let epoch = c.loop-at.epoch in
    let next = c.next_told.new.epoch in
    let tells = where_some (TellsPiece o before new epoch next) c.in-Some.is c.in-Ok.ensures.some in
    record {
      number = refl;
      counts = c.count.ensures.after;
      leaves = leaves-more o c.args.epoch.now epoch next c.args.number.now c.loop-at.at (rem c.args.reader.now) before new c.in-Err.flaw c.loop-at.invariant.leaves (subst (λ (x : Saying ℕ). TellsPiece o before new epoch next x) c.in-Err.is tells);
    }

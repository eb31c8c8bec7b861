use Rattle.std.proofs.Common.{◌≡◌, ◌+◌, suc, arith, sym}
use Rattle.rw_trace.specs.declared.Row.{Row}
use Rattle.rw_trace.specs.declared.Kind.TheVariants.{Get}
use Rattle.rw_report.proofs.Streamed.{last_take, rise_at, rise_take}
use Rattle.rw_report.proofs.streaming.is_rising.Goals as goal

none : Row
none = record { time = 0; edge = 0; object = 0; size = 0; kind = Get }

pub returns-then-row-latest : goal.returns-then-row-latest
unfolding none
returns-then-row-latest c = (
  λ h. cc,
  λ up.
      let at = rise_at 0 c.args.rows.now c.loop-row.row-index none c.loop-row-test.true up in
      let latest = c.loop-row.invariant.latest in
      let early = c.if-row-latest.true in
      absurd (omega (arith, at, latest, early)),
)

pub loop-row-preserved : goal.loop-row-preserved
unfolding none
loop-row-preserved c =
    let n = c.loop-row.row-index in
    let rows = c.args.rows.now in
    let next : n + 1 ≡ suc n = omega arith in
    let latest = c.loop-row.invariant.latest in
    let later = c.if-row-latest.false in
    rw next (record {
      rising = rise_take 0 rows n none c.loop-row-test.true c.loop-row.invariant.rising (omega (arith, latest, later));
      latest = sym (last_take 0 rows n none c.loop-row-test.true);
    })

-- Each row becomes the one that it is spread to.
use Rattle.std.proofs.Common.{◌≡◌, ◌≤◌, ◌<◌, ◌+◌, ◌*◌, ◌/◌, ap, arith, cond, get_or, nat_eq, subst, sym, take, ◌∙◌}
use Rattle.std.proofs.lemmas.List.Elements.{All-get_or}
use Rattle.rw_trace.specs.Limits.{latest_time}
use Rattle.rw_trace.specs.declared.Row.{Row}
use Rattle.rw_import.specs.Spread.{SpreadsRows, rows_at, spread_row, times_in}
use Rattle.rw_import.proofs.Counting.{time-counted}
use Rattle.rw_import.proofs.SpreadLaws.{spread-law}
use Rattle.rw_import.proofs.Spreads.{no_row, row-to-come, row-written, rows-written, rows_at-before}
use Rattle.rw_import.proofs.spreading.spread_counted.Goals as goal

pub ticks_after-requires-clause-among : goal.ticks_after-requires-clause-among
ticks_after-requires-clause-among c =
    let all = c.args.rows.now in
    let i = c.loop-row.row-index in
    let r = get_or c.loop-row.rows i no_row in
    let here : r ≡ get_or all i no_row = row-to-come c.args.ticks all c.loop-row.rows i no_row (omega arith) c.loop-row.invariant.rows in
    let before = c.in_ok-before.ensures.before ∙ c.loop-row.invariant.seen r.time in
    let whole = c.times_of.ensures ∙ c.requires.counts r.time in
    let P : Row → Type 0 = λ q. rows_at (take i all) q.time < rows_at all q.time in
    omega (arith, before, whole, subst P (sym here) (rows_at-before all i no_row (omega arith)))

pub overflow_add-row : goal.overflow_add-row
overflow_add-row c =
    let all = c.args.rows.now in
    let i = c.loop-row.row-index in
    let r = get_or c.loop-row.rows i no_row in
    let here : r ≡ get_or all i no_row = row-to-come c.args.ticks all c.loop-row.rows i no_row (omega arith) c.loop-row.invariant.rows in
    let time : (get_or all i no_row).time ≤ latest_time = All-get_or (λ q. q.time ≤ latest_time) all i no_row (omega arith) c.requires.times in
    omega (arith, ap (λ (q : Row). q.time) here, time, c.ticks_after.ensures.within, c.requires.few)

pub loop-row-preserved : goal.loop-row-preserved
loop-row-preserved c =
    let all = c.args.rows.now in
    let i = c.loop-row.row-index in
    let r = get_or c.loop-row.rows i no_row in
    let here : r ≡ get_or all i no_row = row-to-come c.args.ticks all c.loop-row.rows i no_row (omega arith) c.loop-row.invariant.rows in
    let before = c.in_ok-before.ensures.before ∙ c.loop-row.invariant.seen r.time in
    let whole = c.times_of.ensures ∙ c.requires.counts r.time in
    let share : c.ticks_after.result ≡ (rows_at (take i all) r.time * c.args.ticks) / rows_at all r.time =
    c.ticks_after.ensures.share ∙ ap (λ k. (k * c.args.ticks) / c.times_of.result) before ∙ ap (λ n. (rows_at (take i all) r.time * c.args.ticks) / n) whole in
    record {
      seen = λ t.
          let own = get_or all i no_row in
          let came = c.loop-row.invariant.seen own.time in
          c.in_ok-before.ensures.counted t
          ∙ ap (λ (q : Row). cond (nat_eq q.time t) (times_in nat_eq c.loop-row.seen q.time + 1) (times_in nat_eq c.loop-row.seen t)) here
          ∙ time-counted all i no_row t _ _ (omega arith) came (c.loop-row.invariant.seen t);
      rows = row-written c.args.ticks all c.loop-row.rows i no_row _ (omega arith) c.loop-row.invariant.rows
          (ap (λ (s : _). record r { time = r.time + s }) share ∙ ap (spread_row c.args.ticks all (take i all)) here);
    }

pub returns-clause-effect : goal.returns-clause-effect
returns-clause-effect c = rows-written c.args.ticks c.args.rows.now c.loop-row.rows c.loop-row.row-index (omega arith) c.loop-row.invariant.rows

pub returns-clause-law : goal.returns-clause-law
returns-clause-law c =
    subst (SpreadsRows c.args.ticks c.args.rows.now)
    (sym (rows-written c.args.ticks c.args.rows.now c.loop-row.rows c.loop-row.row-index (omega arith) c.loop-row.invariant.rows))
    (spread-law c.args.ticks c.args.rows.now c.requires.some)

use Rattle.std.proofs.Common.{◌≡◌, ◌+◌, suc, true, rules, ◌∙◌, sym, arith, take, take_all}
use Rattle.std.specs.Result.{is_ok}
use Rattle.rw_trace.specs.declared.Kind.TheVariants.{Get}
use Rattle.rw_photo.specs.Events.{event_of}
use Rattle.rw_photo.proofs.ValidRows.{more-rows, valid-rows}
use Rattle.rw_photo.proofs.rows.requests_from.Goals as goal

pub loop-index-preserved : goal.loop-index-preserved
loop-index-preserved c =
    let n = c.loop-index.index in
    let rows = c.args.rows.now in
    let good : is_ok c.push.result ≡ true = search rules in
    let items = rw (good, c.event_of.ensures) at c.push.ensures.items in
    let next : n + 1 ≡ suc n = omega arith in
    rw next (items ∙ rw c.loop-index.invariant (sym (more-rows event_of c.args.first n rows (record { time = 0; edge = 0; object = 0; size = 0; kind = Get }) c.loop-index-test.true)))

pub returns-clause-valid : goal.returns-clause-valid
returns-clause-valid c = λ config ranges.
    let rows = c.args.rows.now in
    let all : take c.loop-index.index rows ≡ rows = take_all c.loop-index.index rows c.loop-index-test.false in
    rw (c.loop-index.invariant, all) (valid-rows config c.args.first rows (omega (arith, c.requires)) ranges)

use Rattle.std.proofs.Common.{rules, ◌≤◌, ◌^◌, ◌∙◌, true, false, All, List, Ok, ap, length, subst, sym}
use Rattle.std.specs.List.{Any}
use Rattle.rw_trace.specs.declared.Row.{Row}
use Rattle.rw_trace.specs.Laws.{IsRow}
use Rattle.rw_sweep.specs.Working.{HasTaken, HasTakenFirst, IsExhaustedAt}
use Rattle.rw_sweep.proofs.Taken.{if-not, if-so}
use Rattle.rw_sweep.proofs.Traced.{accepted-with, any-back, fault-back, first-back, lines-back, may-run, taken-back}
use Rattle.rw_sweep.proofs.sweeping.sweep_points.Goals as goal

pub write_all-requires-after_bounds : goal.write_all-requires-after_bounds
write_all-requires-after_bounds g c κs within =
    let rows : List Row = c.as_slice-rows.result.now in
    let few : length rows ≤ 2 ^ 63 = search rules in
    let ranges : All (IsRow c.edges.result) rows = subst (All (IsRow c.edges.result)) (sym c.as_slice-rows.ensures.value) c.in_ok-all.ensures.ranges in
    may-run c.args.table.grid.now rows c.args.table.points.now c.as_slice-points.result.now c.facts_of.result c.edges.result (c.as_slice-points.ensures.value ∙ c.in_ok-points.ensures) c.facts_of.ensures
    c.edges.ensures ranges few c.requires.of_grid c.requires.marks

pub returns-in_err-write_all-clause-fault : goal.returns-in_err-write_all-clause-fault
returns-in_err-write_all-clause-fault g c =
    let rows : List Row = c.as_slice-rows.result.now in
    let made = c.as_slice-points.ensures.value ∙ c.in_ok-points.ensures in
    let accepted = c.in_ok-all.ensures.rows ∙ ap (λ (rs : List Row). Ok rs) (sym c.as_slice-rows.ensures.value) in
    fault-back c.args.table.grid.now c.args.bytes.now c.args.table.points.now c.from_residual-in_err-write_all.result c.in_err-write_all.field-0.0 c.from_residual-in_err-write_all.ensures.1
    (λ exhausted. accepted-with c.args.table.grid.now c.args.bytes.now rows c.edges.result (λ rs. Any (IsExhaustedAt rs) c.args.table.points.now) c.edges.ensures accepted
    (any-back rows c.facts_of.result c.args.table.points.now c.as_slice-points.result.now made (c.in_err-write_all.ensures.exhausted exhausted)))

pub returns-in_err-write_all-clause-whole_lines : goal.returns-in_err-write_all-clause-whole_lines
returns-in_err-write_all-clause-whole_lines g c =
    let rows : List Row = c.as_slice-rows.result.now in
    let made = c.as_slice-points.ensures.value ∙ c.in_ok-points.ensures in
    let accepted = c.in_ok-all.ensures.rows ∙ ap (λ (rs : List Row). Ok rs) (sym c.as_slice-rows.ensures.value) in
    let before = g.W.Write.contents c.args.out.now.writer in
    let after = g.W.Write.contents c.write_all.new.out.writer in
    lines-back _ _ c.from_residual-in_err-write_all.result
    (accepted-with c.args.table.grid.now c.args.bytes.now rows c.edges.result (λ rs. HasTakenFirst true rs c.args.table.points.now c.args.table.header.now before after) c.edges.ensures accepted
    (first-back rows c.facts_of.result true c.args.table.points.now c.as_slice-points.result.now c.args.table.header.now before after made c.in_err-write_all.ensures.refused))

pub returns-then-branch-clause-table : goal.returns-then-branch-clause-table
returns-then-branch-clause-table g c =
    let rows : List Row = c.as_slice-rows.result.now in
    let own = c.as_slice-points.result.now in
    let header = c.args.table.header.now in
    let made = c.as_slice-points.ensures.value ∙ c.in_ok-points.ensures in
    let accepted = c.in_ok-all.ensures.rows ∙ ap (λ (rs : List Row). Ok rs) (sym c.as_slice-rows.ensures.value) in
    let before = g.W.Write.contents c.args.out.now.writer in
    let after = g.W.Write.contents c.write_all.new.out.writer in
    accepted-with c.args.table.grid.now c.args.bytes.now rows c.edges.result (λ rs. HasTaken true rs c.args.table.points.now header before after) c.edges.ensures accepted
    (taken-back rows c.facts_of.result true c.args.table.points.now own header before after made
    (if-so (HasTaken true rows own header before after) (HasTakenFirst false rows own header before after) c.in_ok-write_all.field-0 c.if-branch.true c.in_ok-write_all.ensures.taken))

pub returns-clause-cut_off : goal.returns-clause-cut_off
returns-clause-cut_off g c =
    let rows : List Row = c.as_slice-rows.result.now in
    let own = c.as_slice-points.result.now in
    let header = c.args.table.header.now in
    let made = c.as_slice-points.ensures.value ∙ c.in_ok-points.ensures in
    let accepted = c.in_ok-all.ensures.rows ∙ ap (λ (rs : List Row). Ok rs) (sym c.as_slice-rows.ensures.value) in
    let before = g.W.Write.contents c.args.out.now.writer in
    let after = g.W.Write.contents c.write_all.new.out.writer in
    λ cut. accepted-with c.args.table.grid.now c.args.bytes.now rows c.edges.result (λ rs. HasTakenFirst false rs c.args.table.points.now header before after) c.edges.ensures accepted
    (first-back rows c.facts_of.result false c.args.table.points.now own header before after made
    (if-not (HasTaken true rows own header before after) (HasTakenFirst false rows own header before after) c.in_ok-write_all.field-0 c.if-branch.false c.in_ok-write_all.ensures.taken))

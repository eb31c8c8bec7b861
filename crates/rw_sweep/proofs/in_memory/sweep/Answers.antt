use Rattle.std.proofs.Common.{inl, inr, sym, ◌∙◌}
use Rattle.std.proofs.lemmas.Bool.{false≢true}
use Rattle.std.proofs.lemmas.Result.{IfErr-weaker}
use Rattle.rw_sweep.specs.InMemory.{AsksForCounts, IsCountsFault, IsFaultUnder}
use Rattle.rw_sweep.specs.OverTime.{IsOverTimeFault}
use Rattle.rw_sweep.proofs.Plain.{no-plan}
use Rattle.rw_sweep.proofs.Slots.{lines-so, table-so}
use Rattle.rw_sweep.proofs.in_memory.sweep.Goals as goal

-- ---- where no more is asked for than the counts of the whole run

pub returns-then-is_plain-clause-table : goal.returns-then-is_plain-clause-table
returns-then-is_plain-clause-table g c =
    let asks = c.is_plain.ensures.0 c.if-is_plain.true in
    table-so c.sweep_plainly.result (λ h. inl (asks, h)) c.sweep_plainly.ensures.table

pub returns-then-is_plain-clause-fault : goal.returns-then-is_plain-clause-fault
returns-then-is_plain-clause-fault g c =
    let s = c.args.sweeping.now in
    let asks = c.is_plain.ensures.0 c.if-is_plain.true in
    IfErr-weaker c.sweep_plainly.result (IsCountsFault s.grid.now s.part c.args.bytes.now) (IsFaultUnder s.grid.now s.part s.outlook c.args.bytes.now) (λ e h. inl (asks, h)) c.sweep_plainly.ensures.fault

pub returns-then-is_plain-clause-cut_off : goal.returns-then-is_plain-clause-cut_off
returns-then-is_plain-clause-cut_off g c = λ cut. inl (c.is_plain.ensures.0 c.if-is_plain.true, c.sweep_plainly.ensures.cut_off cut)

pub returns-then-is_plain-clause-early : goal.returns-then-is_plain-clause-early
returns-then-is_plain-clause-early g c =
    let s = c.args.sweeping.now in
    λ same. absurd (no-plan c.sweep_plainly.result s.grid.now s.part c.args.bytes.now c.sweep_plainly.ensures.fault same)

pub returns-then-is_plain-clause-whole_lines : goal.returns-then-is_plain-clause-whole_lines
returns-then-is_plain-clause-whole_lines g c =
    let asks = c.is_plain.ensures.0 c.if-is_plain.true in
    lines-so _ c.sweep_plainly.result (λ h. inl (asks, h)) c.sweep_plainly.ensures.whole_lines

-- ---- where more is

pub returns-else-is_plain-clause-table : goal.returns-else-is_plain-clause-table
returns-else-is_plain-clause-table g c =
    let more = λ (asks : AsksForCounts c.args.sweeping.now.outlook). false≢true (sym c.if-is_plain.false ∙ c.is_plain.ensures.1 asks) in
    table-so c.sweep_over_time.result (λ h. inr (more, h)) c.sweep_over_time.ensures.table

pub returns-else-is_plain-clause-fault : goal.returns-else-is_plain-clause-fault
returns-else-is_plain-clause-fault g c =
    let s = c.args.sweeping.now in
    let more = λ (asks : AsksForCounts s.outlook). false≢true (sym c.if-is_plain.false ∙ c.is_plain.ensures.1 asks) in
    IfErr-weaker c.sweep_over_time.result (IsOverTimeFault s.grid.now s.part s.outlook c.args.bytes.now) (IsFaultUnder s.grid.now s.part s.outlook c.args.bytes.now) (λ e h. inr (more, h)) c.sweep_over_time.ensures.fault

pub returns-else-is_plain-clause-cut_off : goal.returns-else-is_plain-clause-cut_off
returns-else-is_plain-clause-cut_off g c =
    let more = λ (asks : AsksForCounts c.args.sweeping.now.outlook). false≢true (sym c.if-is_plain.false ∙ c.is_plain.ensures.1 asks) in
    λ cut. inr (more, c.sweep_over_time.ensures.cut_off cut)

pub returns-else-is_plain-clause-whole_lines : goal.returns-else-is_plain-clause-whole_lines
returns-else-is_plain-clause-whole_lines g c =
    let more = λ (asks : AsksForCounts c.args.sweeping.now.outlook). false≢true (sym c.if-is_plain.false ∙ c.is_plain.ensures.1 asks) in
    lines-so _ c.sweep_over_time.result (λ h. inr (more, h)) c.sweep_over_time.ensures.whole_lines

use Rattle.std.proofs.Common.{◌≤◌, length, ap, arith}
use Rattle.rw_world.proofs.Made.{processes_count}
use Rattle.rw_world.proofs.Undoing.{one_run_itself, one_run_chain, none_more, none_at_all}
use Rattle.rw_world.proofs.parts.Parts.undo_all.Goals as goal

pub loop-number-init : goal.loop-number-init
loop-number-init g c = record { whole = c.requires.whole; run = one_run_itself c.args.self.now; none = λ p h. absurd (omega arith) }

pub undo_process-requires : goal.undo_process-requires
undo_process-requires g c =
    let known = c.loop-number.invariant in
    let x = c.loop-number.self in
    record { whole = known.whole; there = omega (arith, processes_count g.M.Model g.M.Body.Ord.cmp x known.whole, ap g.M.Model.process_count known.run.model, c.processes-number-end.ensures) }

pub loop-number-preserved : goal.loop-number-preserved
loop-number-preserved g c =
    let known = c.loop-number.invariant in
    let after = c.in_ok-undo_process.ensures in
    let x = c.loop-number.self in
    record {
      whole = after.whole;
      run = one_run_chain c.args.self.now x c.undo_process.new.self known.run after.run;
      none = none_more x c.undo_process.new.self c.loop-number.number known.none after.others after.none;
    }

pub returns-clause-none : goal.returns-clause-none
returns-clause-none g c =
    let known = c.loop-number.invariant in
    let x = c.loop-number.self in
    let all : length x.processes.items ≤ c.loop-number.number = omega (arith, processes_count g.M.Model g.M.Body.Ord.cmp x known.whole, ap g.M.Model.process_count known.run.model, c.processes-number-end.ensures) in
    none_at_all x c.loop-number.number all known.none

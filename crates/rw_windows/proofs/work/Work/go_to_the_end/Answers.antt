use Rattle.rw_windows.proofs.Workers.{same_itself, same_then}
use Rattle.rw_windows.proofs.work.Work.go_to_the_end.Goals as goal

pub loop-init : goal.loop-init
loop-init g c = record { at_work = c.requires.at_work; same = same_itself c.args.worker.now }

pub execute_next-requires : goal.execute_next-requires
execute_next-requires g c = record { at_work = c.loop.invariant.at_work }

pub loop-preserved-then-branch : goal.loop-preserved-then-branch
loop-preserved-then-branch g c = record {
  at_work = c.in_ok-execute_next.ensures.at_work;
  same = same_then c.args.worker.now c.loop.worker c.execute_next.new.self c.loop.invariant.same c.in_ok-execute_next.ensures.same;
}

pub returns-then-not-are_there : goal.returns-then-not-are_there
returns-then-not-are_there g c = record {
  at_work = c.in_ok-execute_next.ensures.at_work;
  same = same_then c.args.worker.now c.loop.worker c.execute_next.new.self c.loop.invariant.same c.in_ok-execute_next.ensures.same;
  none = c.in_ok-execute_next.ensures.none c.if-branch.false;
}

pub loop-preserved : goal.loop-preserved
loop-preserved g c =
    let ran = c.execute_next.new.self in
    record {
      at_work = c.in_ok-are_there.ensures.at_work;
      same = same_then c.args.worker.now ran c.go_on.new.worker (same_then c.args.worker.now c.loop.worker ran c.loop.invariant.same c.in_ok-execute_next.ensures.same) c.in_ok-are_there.ensures.same;
    }

pub go_on-requires : goal.go_on-requires
go_on-requires g c = record { at_work = c.in_ok-execute_next.ensures.at_work }

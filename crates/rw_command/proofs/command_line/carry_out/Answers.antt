use Rattle.std.proofs.Common.{◌≡◌, inl, inr}
use Rattle.rw_command.proofs.Statuses.{more-left}
use Rattle.rw_command.specs.Left.{LeavesLines, LeavesNoTrace, LeavesSome}
use Rattle.rw_command.proofs.command_line.carry_out.Goals as goal

pub returns-in-import-clause-nothing : goal.returns-in-import-clause-nothing
returns-in-import-clause-nothing g c =
    let before = g.W.Write.contents c.args.out.now.writer in
    let after = g.W.Write.contents c.import.new.out.writer in
    more-left (c.import.new.out ≡ c.args.out.now) c.import.result (λ n. LeavesNoTrace n before after) (λ n. LeavesSome n before after) (λ n text. inr text) c.import.ensures.nothing

pub returns-in-sweep-clause-nothing : goal.returns-in-sweep-clause-nothing
returns-in-sweep-clause-nothing g c =
    let before = g.W.Write.contents c.args.out.now.writer in
    let after = g.W.Write.contents c.sweep.new.out.writer in
    more-left (c.sweep.new.out ≡ c.args.out.now) c.sweep.result (λ n. LeavesLines n before after) (λ n. LeavesSome n before after) (λ n lines. inl lines) c.sweep.ensures.nothing

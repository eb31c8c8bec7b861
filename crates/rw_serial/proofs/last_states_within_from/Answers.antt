use Rattle.std.proofs.Common.{◌∙◌, ap, length}
use Rattle.std.specs.List.{sum_by}
use Rattle.std.proofs.lemmas.Result.{err_from_is_err_and}
use Rattle.rw_serial.proofs.Counting.{counts_nothing}
use Rattle.rw_serial.proofs.last_states_within_from.Goals as goal

pub execute_all-requires-clause-none : goal.execute_all-requires-clause-none
execute_all-requires-clause-none g c = (c.args.limit, counts_nothing _ (length c.args.starts.items) c.up_to-count.ensures.0 c.up_to-count.ensures.1)

pub returns-then-branch-clause-outcome : goal.returns-then-branch-clause-outcome
returns-then-branch-clause-outcome g c =
    let nothing = counts_nothing _ (length c.args.starts.items) c.up_to-count.ensures.0 c.up_to-count.ensures.1 in
    let out = c.in_ok-execute_all.ensures.outcome c.if-branch.true c.args.limit nothing in
    (out.0, out.2)

pub returns-then-branch-clause-count : goal.returns-then-branch-clause-count
returns-then-branch-clause-count g c =
    let nothing = counts_nothing _ (length c.args.starts.items) c.up_to-count.ensures.0 c.up_to-count.ensures.1 in
    let out = c.in_ok-execute_all.ensures.outcome c.if-branch.true c.args.limit nothing in
    (out.1.counted ∙ ap (sum_by length) out.2.journals_are, out.1.within)

pub returns-in_err-execute_all-clause-exhausted : goal.returns-in_err-execute_all-clause-exhausted
returns-in_err-execute_all-clause-exhausted g c =
    let p = err_from_is_err_and c.from_residual.result c.from_residual.ensures.1 in
    rw (p.1, p.2) (λ e. c.in_err-execute_all.ensures.exhausted e)

pub execute_all-requires-clause-ready : goal.execute_all-requires-clause-ready
execute_all-requires-clause-ready g c = c.requires.ready

pub returns-then-branch-clause-used_up : goal.returns-then-branch-clause-used_up
returns-then-branch-clause-used_up g c = tt

pub returns-else-branch-clause-outcome : goal.returns-else-branch-clause-outcome
returns-else-branch-clause-outcome g c = tt

pub returns-else-branch-clause-used_up : goal.returns-else-branch-clause-used_up
returns-else-branch-clause-used_up g c =
    c.in_ok-execute_all.ensures.used_up c.if-branch.false c.args.limit (counts_nothing _ (length c.args.starts.items) c.up_to-count.ensures.0 c.up_to-count.ensures.1)

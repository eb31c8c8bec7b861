use Rattle.std.proofs.Common.{◌≡◌, [], ◌∙◌, ap, subst, sym}
use Rattle.std.proofs.lemmas.Result.{IfOk-weaker}
use Rattle.rw_vt.specs.System.{system}
use Rattle.rw_vt.proofs.Laws.{laws_of, lawful}
use Rattle.rw_models.specs.Committed.{HasCommitted, RunsOnAfter}
use Rattle.rw_models.specs.Recorded.{new_records, states_of}
use Rattle.rw_models.proofs.Between.{committed_at_start, left_at_start}
use Rattle.rw_models.proofs.Segments.{states_new}
use Rattle.rw_models.proofs.recorded.Recorded.new_records.Goals as goal

pub returns-clause-states : goal.returns-clause-states
returns-clause-states g c =
    IfOk-weaker c.empty_records.result (λ records. records.items ≡ new_records c.args.states.items) (λ records. states_of records.items ≡ c.args.states.items)
    (λ records is. ap states_of is ∙ states_new g.row.M-Body.Denot c.args.states.items)
    c.empty_records.ensures

pub returns-clause-begins : goal.returns-clause-begins
returns-clause-begins g c =
    IfOk-weaker c.empty_records.result (λ records. records.items ≡ new_records c.args.states.items) _
    (λ records is m initial ready.
    let y = system g.M.Model g.M.Body.Ord.cmp m c.args.states.items initial in
    subst (λ s. HasCommitted y 0 s initial []) (sym (ap states_of is ∙ states_new g.row.M-Body.Denot c.args.states.items))
    (committed_at_start y (lawful (laws_of g.met.M.Model g.met.M.Body.Ord.total) m c.args.states.items initial ready)))
    c.empty_records.ensures

pub returns-clause-left : goal.returns-clause-left
returns-clause-left g c =
    IfOk-weaker c.empty_records.result (λ records. records.items ≡ new_records c.args.states.items) _
    (λ records is m initial.
    let y = system g.M.Model g.M.Body.Ord.cmp m c.args.states.items initial in
    subst (λ s. RunsOnAfter y [] s initial) (sym (ap states_of is ∙ states_new g.row.M-Body.Denot c.args.states.items))
    (left_at_start y))
    c.empty_records.ensures

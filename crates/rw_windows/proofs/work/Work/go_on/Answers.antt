-- Counting and leaving unheard change nothing of what a worker is or holds.
use Rattle.std.proofs.Common.{◌≡◌, ◌∙◌, true, sym, subst, rules}
use Rattle.rw_windows.specs.Working.{IsAtWork, HandedOver, SameWorker}
use Rattle.rw_windows.proofs.Workers.{same_then}
use Rattle.rw_windows.proofs.work.Work.go_on.Goals as goal
use Rattle.rw_windows.proofs.work.Work.go_on.Goals.{else-not-leaves_unread-via-then-not-leaves_unread+in_ok-receive_all+else-not-branch-2 as bound_in, else-not-leaves_unread-via-else-not-leaves_unread as left}

pub send_all-requires : goal.send_all-requires
send_all-requires g c = record { at_work = c.requires.at_work }

pub returns-then-not-branch-clause-at_work : goal.returns-then-not-branch-clause-at_work
returns-then-not-branch-clause-at_work g c = c.in_ok-send_all.ensures.at_work

pub returns-then-not-branch-clause-same : goal.returns-then-not-branch-clause-same
returns-then-not-branch-clause-same g c = c.in_ok-send_all.ensures.same

pub receive_all-requires-clause-at_work : goal.receive_all-requires-clause-at_work
receive_all-requires-clause-at_work g c =
    let same = c.leaves_unread.ensures.same ∙ c.note_idle.ensures.same in
    subst (IsAtWork g.M.Model g.M.Body.Ord.cmp c.args.self.now.model) (sym same) c.in_ok-send_all.ensures.at_work

pub receive_all-requires-clause-handed_over : goal.receive_all-requires-clause-handed_over
receive_all-requires-clause-handed_over g c =
    let same = c.leaves_unread.ensures.same ∙ c.note_idle.ensures.same in
    let there : c.in_ok-send_all.field-0 ≡ true = search rules in
    subst HandedOver (sym same) (c.in_ok-send_all.ensures.handed_over there)

pub returns-then-not-branch-2-clause-at_work : goal.returns-then-not-branch-2-clause-at_work
returns-then-not-branch-2-clause-at_work g c = c.in_ok-receive_all.ensures.at_work

pub returns-then-not-branch-2-clause-same : goal.returns-then-not-branch-2-clause-same
returns-then-not-branch-2-clause-same g c =
    let same = c.leaves_unread.ensures.same ∙ c.note_idle.ensures.same in
    same_then _ _ _ (subst (SameWorker c.args.worker.now) (sym same) c.in_ok-send_all.ensures.same) c.in_ok-receive_all.ensures.same

-- whether it heard or not

pub go_further-requires-clause-at_work : goal.go_further-requires-clause-at_work
go_further-requires-clause-at_work g c =
    let P = IsAtWork g.M.Model g.M.Body.Ord.cmp c.args.self.now.model in
    let same = c.leaves_unread.ensures.same ∙ c.note_idle.ensures.same in
    elim c.else-not-leaves_unread.branch [
      | bound_in w ↦ subst P (sym w.worker-is) w.in_ok-receive_all.ensures.at_work
      | left w ↦ subst P (sym (w.worker-is ∙ same)) c.in_ok-send_all.ensures.at_work
    ]

pub go_further-requires-clause-handed_over : goal.go_further-requires-clause-handed_over
go_further-requires-clause-handed_over g c =
    let same = c.leaves_unread.ensures.same ∙ c.note_idle.ensures.same in
    elim c.else-not-leaves_unread.branch [
      | bound_in w ↦ subst HandedOver (sym w.worker-is) w.in_ok-receive_all.ensures.handed_over
      | left w ↦ subst HandedOver (sym (w.worker-is ∙ same)) (c.in_ok-send_all.ensures.handed_over c.if-not-branch.false)
    ]

pub returns-clause-at_work : goal.returns-clause-at_work
returns-clause-at_work g c = c.go_further.ensures.at_work

pub returns-clause-same : goal.returns-clause-same
returns-clause-same g c =
    let P = SameWorker c.args.worker.now in
    let same = c.leaves_unread.ensures.same ∙ c.note_idle.ensures.same in
    let bound_out = subst P (sym same) c.in_ok-send_all.ensures.same in
    same_then _ _ _ (elim c.else-not-leaves_unread.branch [
      | bound_in w ↦ subst P (sym w.worker-is) (same_then _ _ _ bound_out w.in_ok-receive_all.ensures.same)
      | left w ↦ subst P (sym w.worker-is) bound_out
    ]) c.go_further.ensures.same

use Rattle.std.proofs.Common.{refl, sym, ◌∙◌, ap, subst, [], set, map, arith}
use Rattle.std.proofs.lemmas.List.{length-map, map-set}
use Rattle.rw_vt.proofs.Laws.{laws_of}
use Rattle.rw_exchange.specs.Ports.{IsOther, free_to}
use Rattle.rw_windows.specs.Working.{IsAtWork, SameWorker}
use Rattle.rw_windows.proofs.Telling.{has_list, may_send_to, told_with, kept_with, put_back, read_part}
use Rattle.rw_windows.proofs.Workers.{same_itself, same_then}
use Rattle.rw_windows.proofs.worker.Worker.send_to.Goals as goal

pub send_waiting-requires-clause-allowed : goal.send_waiting-requires-clause-allowed
send_waiting-requires-clause-allowed g c =
    let laws = laws_of g.met.M.Model g.met.M.Body.Ord.total in
    let work = subst (IsAtWork g.M.Model g.M.Body.Ord.cmp c.args.model.now) (sym c.self.view_is) c.requires.at_work in
    let other = subst (λ w. IsOther w.port c.args.to) (sym c.self.view_is) c.requires.other in
    let read = c.in_ok-events.ensures.taken ∙ read_part (λ v. v.items) c.self.inside.domain.outbox.items c.args.to c.index_mut.result.now [] (has_list work c.args.to other) c.index_mut.ensures.value in
    may_send_to laws c.args.model.now _ work c.args.to other _ read refl (record { model = c.of.ensures; workers = c.of-2.ensures; to = c.of-3.ensures })

pub returns-in-Ok-clause-at_work : goal.returns-in-Ok-clause-at_work
returns-in-Ok-clause-at_work g c =
    let laws = laws_of g.met.M.Model g.met.M.Body.Ord.total in
    let work = subst (IsAtWork g.M.Model g.M.Body.Ord.cmp c.args.model.now) (sym c.self.view_is) c.requires.at_work in
    let other = subst (λ w. IsOther w.port c.args.to) (sym c.self.view_is) c.requires.other in
    let read = c.in_ok-events.ensures.taken ∙ read_part (λ v. v.items) c.self.inside.domain.outbox.items c.args.to c.index_mut.result.now [] (has_list work c.args.to other) c.index_mut.ensures.value in
    let outbox = map-set (λ v. v.items) c.self.inside.domain.outbox.items c.args.to c.take_list.new.list ∙ ap (set (map (λ v. v.items) c.self.inside.domain.outbox.items) c.args.to) c.in_ok-events.ensures.none in
    told_with laws c.args.model.now _ work c.args.to other _ read refl (record { model = c.of.ensures; workers = c.of-2.ensures; to = c.of-3.ensures }) (free_to c.send_waiting.new.port c.args.to) c.send_waiting.new.port _ c.in-Ok.ensures.ok outbox

pub returns-in-Err-clause-at_work : goal.returns-in-Err-clause-at_work
returns-in-Err-clause-at_work g c =
    let work = subst (IsAtWork g.M.Model g.M.Body.Ord.cmp c.args.model.now) (sym c.self.view_is) c.requires.at_work in
    let back = ap (λ b. b.events) (c.back.view_is ∙ c.in-Err.ensures.err.0) ∙ c.in_ok-events.ensures.taken ∙ ap (λ v. v.items) c.index_mut.ensures.value in
    kept_with c.args.model.now _ work c.send_waiting.new.port _ c.in-Err.ensures.err.1 (put_back (λ v. v.items) c.self.inside.domain.outbox.items c.args.to c.take_list.new.list c.back.inside.events c.index_mut.result.now back)

pub returns-in-Ok-clause-told : goal.returns-in-Ok-clause-told
returns-in-Ok-clause-told g c =
    let outbox = map-set (λ v. v.items) c.self.inside.domain.outbox.items c.args.to c.take_list.new.list ∙ ap (set (map (λ v. v.items) c.self.inside.domain.outbox.items) c.args.to) c.in_ok-events.ensures.none in
    λ there. outbox ∙ ap (λ w. set w.outbox c.args.to []) c.self.view_is

pub index_mut-requires : goal.index_mut-requires
index_mut-requires g c =
    let work = subst (IsAtWork g.M.Model g.M.Body.Ord.cmp c.args.model.now) (sym c.self.view_is) c.requires.at_work in
    let other = subst (λ w. IsOther w.port c.args.to) (sym c.self.view_is) c.requires.other in
    omega (arith, c.self.inside.domain.outbox.ok.0, length-map c.self.inside.domain.outbox.items (λ l. l.items), has_list work c.args.to other)

pub index_mut-requires-in-Err : goal.index_mut-requires-in-Err
index_mut-requires-in-Err g c =
    let work = subst (IsAtWork g.M.Model g.M.Body.Ord.cmp c.args.model.now) (sym c.self.view_is) c.requires.at_work in
    let other = subst (λ w. IsOther w.port c.args.to) (sym c.self.view_is) c.requires.other in
    omega (arith, c.self.inside.domain.outbox.ok.0, length-map c.self.inside.domain.outbox.items (λ l. l.items), has_list work c.args.to other)

pub send_waiting-requires-clause-other : goal.send_waiting-requires-clause-other
send_waiting-requires-clause-other g c = subst (λ w. IsOther w.port c.args.to) (sym c.self.view_is) c.requires.other

pub returns-in-Ok-clause-same : goal.returns-in-Ok-clause-same
returns-in-Ok-clause-same g c =
    same_then _ _ _ (subst (SameWorker c.args.self.now) (sym c.self.view_is) (same_itself c.args.self.now))
    (record { number = refl; workers = refl; end = refl; lookahead = refl; starts = refl; given = refl; port = c.send_waiting.ensures.same })

pub returns-in-Err-clause-same : goal.returns-in-Err-clause-same
returns-in-Err-clause-same g c =
    same_then _ _ _ (subst (SameWorker c.args.self.now) (sym c.self.view_is) (same_itself c.args.self.now))
    (record { number = refl; workers = refl; end = refl; lookahead = refl; starts = refl; given = refl; port = c.send_waiting.ensures.same })

pub returns-in-Ok-clause-rest : goal.returns-in-Ok-clause-rest
returns-in-Ok-clause-rest g c = (ap (λ w. w.until) c.self.view_is, ap (λ w. w.waiting) c.self.view_is)

pub returns-in-Err-clause-rest : goal.returns-in-Err-clause-rest
returns-in-Err-clause-rest g c = (ap (λ w. w.until) c.self.view_is, ap (λ w. w.waiting) c.self.view_is)

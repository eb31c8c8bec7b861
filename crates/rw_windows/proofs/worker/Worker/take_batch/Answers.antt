use Rattle.std.proofs.Common.{◌<◌, ◌≤◌, ◌++◌, sym, ◌∙◌, ap, subst, All, IsPermutation}
use Rattle.rw_vt.proofs.Laws.{laws_of}
use Rattle.rw_exchange.specs.Ports.{IsOther, SamePort, received_from}
use Rattle.rw_windows.specs.Batches.{last_bound}
use Rattle.rw_windows.specs.Working.{IsAtWork, SameWorker, outbox_to}
use Rattle.rw_windows.proofs.Hearing.{receiving_with, others_with, bound_with, reached_before}
use Rattle.rw_windows.proofs.Workers.{same_itself}
use Rattle.rw_windows.proofs.worker.Worker.take_batch.Goals as goal

pub extend-requires : goal.extend-requires
extend-requires g c =
    let laws = laws_of g.met.M.Model g.met.M.Body.Ord.total in
    let work = subst (IsAtWork g.M.Model g.M.Body.Ord.cmp c.args.model.now) (sym c.self.view_is) c.requires.at_work in
    let other = subst (λ w. IsOther w.port c.args.from) (sym c.self.view_is) c.requires.other in
    subst (All (λ e. c.self.inside.pending.time < e.time)) (sym (c.deref.ensures.value ∙ ap (λ b. b.events) c.batch.view_is)) (reached_before laws c.args.model.now _ work c.args.from other c.in-Some.batch c.in-Some.ensures.allowed)

pub returns-clause-at_work : goal.returns-clause-at_work
returns-clause-at_work g c =
    let laws = laws_of g.met.M.Model g.met.M.Body.Ord.total in
    let work = subst (IsAtWork g.M.Model g.M.Body.Ord.cmp c.args.model.now) (sym c.self.view_is) c.requires.at_work in
    let other = subst (λ w. IsOther w.port c.args.from) (sym c.self.view_is) c.requires.other in
    let joined = subst (λ l. IsPermutation (c.self.inside.pending.events ++ l) c.extend.new.self.events) (c.deref.ensures.value ∙ ap (λ b. b.events) c.batch.view_is) c.in_ok-extend.ensures.added in
    receiving_with laws c.args.model.now _ work c.args.from other c.in-Some.batch c.in-Some.ensures.allowed c.extend.new.self.events joined c.receive_waiting.new.port c.extend.new.self.time c.in-Some.ensures.some c.in_ok-extend.ensures.time

pub returns-clause-handed_over : goal.returns-clause-handed_over
returns-clause-handed_over g c = λ v. ap (λ w. outbox_to w v) c.self.view_is ∙ c.requires.handed_over v

pub returns-clause-others : goal.returns-clause-others
returns-clause-others g c =
    let laws = laws_of g.met.M.Model g.met.M.Body.Ord.total in
    let work = subst (IsAtWork g.M.Model g.M.Body.Ord.cmp c.args.model.now) (sym c.self.view_is) c.requires.at_work in
    let other = subst (λ w. IsOther w.port c.args.from) (sym c.self.view_is) c.requires.other in
    let joined = subst (λ l. IsPermutation (c.self.inside.pending.events ++ l) c.extend.new.self.events) (c.deref.ensures.value ∙ ap (λ b. b.events) c.batch.view_is) c.in_ok-extend.ensures.added in
    λ v ne.
    others_with laws c.args.model.now _ work c.args.from other c.in-Some.batch c.in-Some.ensures.allowed c.extend.new.self.events joined c.receive_waiting.new.port c.in-Some.ensures.some v ne
    ∙ ap (λ w. received_from w.port v) c.self.view_is

pub returns-clause-bound : goal.returns-clause-bound
returns-clause-bound g c =
    let laws = laws_of g.met.M.Model g.met.M.Body.Ord.total in
    let work = subst (IsAtWork g.M.Model g.M.Body.Ord.cmp c.args.model.now) (sym c.self.view_is) c.requires.at_work in
    let other = subst (λ w. IsOther w.port c.args.from) (sym c.self.view_is) c.requires.other in
    let joined = subst (λ l. IsPermutation (c.self.inside.pending.events ++ l) c.extend.new.self.events) (c.deref.ensures.value ∙ ap (λ b. b.events) c.batch.view_is) c.in_ok-extend.ensures.added in
    subst (λ b. b.bound ≤ last_bound (received_from c.receive_waiting.new.port c.args.from)) (sym c.batch.view_is)
    (bound_with laws c.args.model.now _ work c.args.from other c.in-Some.batch c.in-Some.ensures.allowed c.extend.new.self.events joined c.receive_waiting.new.port c.in-Some.ensures.some)

pub returns-clause-same : goal.returns-clause-same
returns-clause-same g c =
    record {
      number = ap (λ w. w.number) c.self.view_is;
      workers = ap (λ w. w.workers) c.self.view_is;
      end = ap (λ w. w.end) c.self.view_is;
      lookahead = ap (λ w. w.lookahead) c.self.view_is;
      starts = ap (λ w. w.starts) c.self.view_is;
      given = ap (λ w. w.given) c.self.view_is;
      port = subst (λ p. SamePort p c.receive_waiting.new.port) (ap (λ w. w.port) c.self.view_is) c.receive_waiting.ensures.same;
    }

pub returns-clause-times : goal.returns-clause-times
returns-clause-times g c = (ap (λ w. w.until) c.self.view_is, ap (λ w. w.bound_in) c.self.view_is)

pub returns-in_default-clause-at_work : goal.returns-in_default-clause-at_work
returns-in_default-clause-at_work g c = rw c.in_default.ensures.none (subst (IsAtWork g.M.Model g.M.Body.Ord.cmp c.args.model.now) (sym c.self.view_is) c.requires.at_work)

pub returns-in_default-clause-same : goal.returns-in_default-clause-same
returns-in_default-clause-same g c = rw c.in_default.ensures.none (subst (SameWorker c.args.self.now) (sym c.self.view_is) (same_itself c.args.self.now))

pub returns-in_default-clause-times : goal.returns-in_default-clause-times
returns-in_default-clause-times g c = (ap (λ w. w.until) c.self.view_is, ap (λ w. w.bound_in) c.self.view_is)

pub returns-in_default-clause-handed_over : goal.returns-in_default-clause-handed_over
returns-in_default-clause-handed_over g c = λ v. ap (λ w. outbox_to w v) c.self.view_is ∙ c.requires.handed_over v

pub returns-in_default-clause-others : goal.returns-in_default-clause-others
returns-in_default-clause-others g c = λ v ne. ap (λ p. received_from p v) c.in_default.ensures.none ∙ ap (λ w. received_from w.port v) c.self.view_is

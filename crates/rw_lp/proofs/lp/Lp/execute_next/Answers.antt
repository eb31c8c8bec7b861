use Rattle.std.proofs.Common.{◌≡◌, ◌<◌, true, false, List, [], ◌∷◌, ◌++◌, append_assoc, refl, sym, ap, ◌∙◌, subst, append-nil, Err, Some, None}
use Rattle.std.proofs.lemmas.Result.{err_from_is_err_and}
use Rattle.rw_vt.specs.declared.refusal.Refusal.TheVariants.{Exhausted}
use Rattle.rw_vt.specs.declared.event.Letter.{Letter}
use Rattle.rw_vt.specs.Order.{event_cmp, copies, without}
use Rattle.rw_vt.proofs.EventOrder.{events_exact}
use Rattle.rw_vt.proofs.Sorting.{IsExactOrder, Has-head}
use Rattle.rw_vt.specs.System.{rules}
use Rattle.rw_lp.specs.declared.answer.StepFault.TheVariants.{NothingPending, Straggler}
use Rattle.rw_lp.specs.declared.answer.Answer.TheVariants.{Done, Refused}
use Rattle.rw_lp.specs.declared.history.Past.{Past}
use Rattle.rw_lp.specs.Cut.{IsKept, seen_of}
use Rattle.rw_lp.specs.Own.{AreFor}
use Rattle.rw_lp.specs.Past.{HistoryState, done_in}
use Rattle.rw_lp.proofs.Chains.{linked_after}
use Rattle.rw_lp.specs.HeldMessages.{unheld_sends}
use Rattle.rw_lp.specs.HeldBack.{letters_given, held_after}
use Rattle.rw_lp.specs.Process.{ProcessState, after_execution, execute_next, is_less_than_last, split_last}
use Rattle.rw_lp.specs.Calls.{LogicalProcess, process_of, MeetsNext, Took}
use Rattle.rw_lp.proofs.Bridges.{nothing_pending, is_straggler, is_executed}
use Rattle.rw_lp.proofs.Own.{executed_for}
use Rattle.rw_lp.proofs.Orders.{without_head}
use Rattle.rw_lp.proofs.Lasts.{first_is, least_is}
use Rattle.rw_lp.proofs.Balance.{unchanged, execution_balanced}
use Rattle.rw_lp.specs.Sound.{Balance}
use Rattle.rw_lp.proofs.lp.Lp.execute_next.Goals as goal

pub returns-in_default-clause-turn : goal.returns-in_default-clause-turn
returns-in_default-clause-turn g c =
    let x = process_of (seen_of c.lp.inside.history.value) c.lp.inside.pending c.lp.inside.debts c.lp.inside.held.value in
    subst (λ (w : LogicalProcess g.row.M.Denot g.row.M-State.Denot g.row.M-Body.Denot). (given : List (Letter g.row.M-Body.Denot)) × (c.args.out.now.items ≡ c.args.out.now.items ++ given) × Took w.process w.process (Refused NothingPending) given (execute_next (rules g.M.Model g.M.Body.Ord.cmp w.model) w.number w.process)) c.lp.view_is
    ([], sym (append-nil c.args.out.now.items), nothing_pending (rules g.M.Model g.M.Body.Ord.cmp x.model) x.number x.process (first_is c.first.result c.copied-next.result None c.lp.inside.pending c.copied-next.ensures c.first.ensures.first c.in_default.is))

pub returns-then-is_past-clause-turn : goal.returns-then-is_past-clause-turn
returns-then-is_past-clause-turn g c =
    let x = process_of (seen_of c.lp.inside.history.value) c.lp.inside.pending c.lp.inside.debts c.lp.inside.held.value in
    let head = first_is c.first.result c.copied-next.result (Some c.in-Some.event) c.lp.inside.pending c.copied-next.ensures c.first.ensures.first c.in-Some.is in
    let late = ap (λ (v : Past g.row.M.Denot g.row.M-State.Denot g.row.M-Body.Denot g.row.M-Undo.Denot). is_less_than_last (event_cmp g.M.Body.Ord.cmp) c.in-Some.event (split_last (done_in (seen_of v)))) (sym c.deref.ensures) ∙ sym c.is_past.ensures ∙ c.if-is_past.true in
    subst (λ (w : LogicalProcess g.row.M.Denot g.row.M-State.Denot g.row.M-Body.Denot). (given : List (Letter g.row.M-Body.Denot)) × (c.args.out.now.items ≡ c.args.out.now.items ++ given) × Took w.process w.process (Refused Straggler) given (execute_next (rules g.M.Model g.M.Body.Ord.cmp w.model) w.number w.process)) c.lp.view_is
    ([], sym (append-nil c.args.out.now.items), is_straggler (rules g.M.Model g.M.Body.Ord.cmp x.model) x.number x.process c.in-Some.event head.0 head.1 late)

pub execute-requires-clause-kept : goal.execute-requires-clause-kept
execute-requires-clause-kept g c =
    subst (IsKept g.M.Model (event_cmp g.M.Body.Ord.cmp)) (sym c.deref_mut.ensures.value) c.lp.invariant.0

pub execute-requires-clause-model : goal.execute-requires-clause-model
execute-requires-clause-model g c =
    let p = c.deref_mut.result.now in
    let x = seen_of p in
    let seen : process_of x c.lp.inside.pending c.lp.inside.debts c.lp.inside.held.value ≡ c.args.self = ap (λ (v : Past g.row.M.Denot g.row.M-State.Denot g.row.M-Body.Denot g.row.M-Undo.Denot). process_of (seen_of v) c.lp.inside.pending c.lp.inside.debts c.lp.inside.held.value) c.deref_mut.ensures.value ∙ c.lp.view_is in
    c.requires.model ∙ sym (ap (λ (w : LogicalProcess g.row.M.Denot g.row.M-State.Denot g.row.M-Body.Denot). w.model) seen)

pub execute-requires-clause-valid : goal.execute-requires-clause-valid
execute-requires-clause-valid g c =
    let o : IsExactOrder (event_cmp g.M.Body.Ord.cmp) = events_exact (record { total = g.met.M.Body.Ord.total; same = g.met.M.Model.same }) in
    let head = first_is c.first.result c.copied-next.result (Some c.in-Some.event) c.lp.inside.pending c.copied-next.ensures c.first.ensures.first c.in-Some.is in
    let p = c.deref_mut.result.now in
    let x = seen_of p in
    let e = c.in-Some.event in
    let seen : process_of x c.lp.inside.pending c.lp.inside.debts c.lp.inside.held.value ≡ c.args.self = ap (λ (v : Past g.row.M.Denot g.row.M-State.Denot g.row.M-Body.Denot g.row.M-Undo.Denot). process_of (seen_of v) c.lp.inside.pending c.lp.inside.debts c.lp.inside.held.value) c.deref_mut.ensures.value ∙ c.lp.view_is in
    let same : c.args.model.now ≡ x.model = c.requires.model ∙ sym (ap (λ (w : LogicalProcess g.row.M.Denot g.row.M-State.Denot g.row.M-Body.Denot). w.model) seen) in
    let known = c.lp.invariant.1.pending e (subst (λ l. 0 < copies (event_cmp g.M.Body.Ord.cmp) e l) (sym head.1) (Has-head o e head.0)) in
    subst (λ m. g.M.Model.is_valid m e ≡ true) (sym (same ∙ ap (λ (v : Past g.row.M.Denot g.row.M-State.Denot g.row.M-Body.Denot g.row.M-Undo.Denot). v.model.value) c.deref_mut.ensures.value)) known.0

pub execute-requires-clause-here : goal.execute-requires-clause-here
execute-requires-clause-here g c =
    let o : IsExactOrder (event_cmp g.M.Body.Ord.cmp) = events_exact (record { total = g.met.M.Body.Ord.total; same = g.met.M.Model.same }) in
    let head = first_is c.first.result c.copied-next.result (Some c.in-Some.event) c.lp.inside.pending c.copied-next.ensures c.first.ensures.first c.in-Some.is in
    let e = c.in-Some.event in
    let known = c.lp.invariant.1.pending e (subst (λ l. 0 < copies (event_cmp g.M.Body.Ord.cmp) e l) (sym head.1) (Has-head o e head.0)) in
    known.1 ∙ sym (ap (λ (v : Past g.row.M.Denot g.row.M-State.Denot g.row.M-Body.Denot g.row.M-Undo.Denot). v.number) c.deref_mut.ensures.value)

pub execute-requires-clause-late : goal.execute-requires-clause-late
execute-requires-clause-late g c =
    let p = c.deref_mut.result.now in
    let x = seen_of p in
    let late : is_less_than_last (event_cmp g.M.Body.Ord.cmp) c.in-Some.event (split_last (done_in x)) ≡ false = ap (λ (v : Past g.row.M.Denot g.row.M-State.Denot g.row.M-Body.Denot g.row.M-Undo.Denot). is_less_than_last (event_cmp g.M.Body.Ord.cmp) c.in-Some.event (split_last (done_in (seen_of v)))) (c.deref_mut.ensures.value ∙ sym c.deref.ensures) ∙ sym c.is_past.ensures ∙ c.if-is_past.false in
    late

pub invariant_of-lp : goal.invariant_of-lp
invariant_of-lp g c =
    let o : IsExactOrder (event_cmp g.M.Body.Ord.cmp) = events_exact (record { total = g.met.M.Body.Ord.total; same = g.met.M.Model.same }) in
    let head = first_is c.first.result c.copied-next.result (Some c.in-Some.event) c.lp.inside.pending c.copied-next.ensures c.first.ensures.first c.in-Some.is in
    let least = least_is (event_cmp g.M.Body.Ord.cmp) c.first.result c.copied-next.result (Some c.in-Some.event) c.lp.inside.pending c.copied-next.ensures c.first.ensures.least c.in-Some.is in
    let p = c.deref_mut.result.now in
    let x = seen_of p in
    let e = c.in-Some.event in
    let own : AreFor g.M.Model g.M.Body.Ord.cmp x c.lp.inside.pending c.lp.inside.debts c.lp.inside.held.value = subst (λ (v : Past g.row.M.Denot g.row.M-State.Denot g.row.M-Body.Denot g.row.M-Undo.Denot). AreFor g.M.Model g.M.Body.Ord.cmp (seen_of v) c.lp.inside.pending c.lp.inside.debts c.lp.inside.held.value) (sym c.deref_mut.ensures.value) c.lp.invariant.1 in
    let seen : process_of x c.lp.inside.pending c.lp.inside.debts c.lp.inside.held.value ≡ c.args.self = ap (λ (v : Past g.row.M.Denot g.row.M-State.Denot g.row.M-Body.Denot g.row.M-Undo.Denot). process_of (seen_of v) c.lp.inside.pending c.lp.inside.debts c.lp.inside.held.value) c.deref_mut.ensures.value ∙ c.lp.view_is in
    let same : c.args.model.now ≡ x.model = c.requires.model ∙ sym (ap (λ (w : LogicalProcess g.row.M.Denot g.row.M-State.Denot g.row.M-Body.Denot). w.model) seen) in
    let rest : c.take-taken.new.self ≡ head.0 = c.take-taken.ensures.rest ∙ ap (without (event_cmp g.M.Body.Ord.cmp) e) head.1 ∙ without_head o e head.0 in
    let after : seen_of c.execute.new.self ≡ record x { processed = x.processed ++ e ∷ []; state = (g.M.Model.step x.model x.number x.state e).0 } = subst (λ m. seen_of c.execute.new.self ≡ record x { processed = x.processed ++ e ∷ []; state = (g.M.Model.step m x.number x.state e).0 }) same c.in_ok-execute.ensures.after in
    let held : c.execute.new.held ≡ held_after (event_cmp g.M.Body.Ord.cmp) e (g.M.Model.step x.model x.number x.state e).1 c.lp.inside.held.value = subst (λ m. c.execute.new.held ≡ held_after (event_cmp g.M.Body.Ord.cmp) e (g.M.Model.step m x.number x.state e).1 c.lp.inside.held.value) same (c.in_ok-execute.ensures.held ∙ ap (held_after (event_cmp g.M.Body.Ord.cmp) e (g.M.Model.step c.args.model.now x.number x.state e).1) c.deref_mut-2.ensures.value) in (
      c.in_ok-execute.ensures.kept,
      executed_for g.M.Model x c.lp.inside.pending c.lp.inside.debts c.lp.inside.held.value own o e c.take-taken.new.self (g.M.Model.step x.model x.number x.state e).1 c.execute.new.held (seen_of c.execute.new.self)
          (head.1 ∙ ap (λ l. e ∷ l) (sym rest)) least.1
          (ap (λ (h : HistoryState g.row.M.Denot g.row.M-State.Denot g.row.M-Body.Denot). h.model) after) (ap (λ (h : HistoryState g.row.M.Denot g.row.M-State.Denot g.row.M-Body.Denot). h.number) after)
          (ap (λ (h : HistoryState g.row.M.Denot g.row.M-State.Denot g.row.M-Body.Denot). done_in h) after ∙ sym (append_assoc x.committed x.processed (e ∷ []))) held,
    )

pub returns-in_err-execute-clause-exhausted : goal.returns-in_err-execute-clause-exhausted
returns-in_err-execute-clause-exhausted g c = λ is.
    let head = first_is c.first.result c.copied-next.result (Some c.in-Some.event) c.lp.inside.pending c.copied-next.ensures c.first.ensures.first c.in-Some.is in
    let p = c.deref_mut.result.now in
    let x = seen_of p in
    let e = c.in-Some.event in
    let seen : process_of x c.lp.inside.pending c.lp.inside.debts c.lp.inside.held.value ≡ c.args.self = ap (λ (v : Past g.row.M.Denot g.row.M-State.Denot g.row.M-Body.Denot g.row.M-Undo.Denot). process_of (seen_of v) c.lp.inside.pending c.lp.inside.debts c.lp.inside.held.value) c.deref_mut.ensures.value ∙ c.lp.view_is in
    let same : c.args.model.now ≡ x.model = c.requires.model ∙ sym (ap (λ (w : LogicalProcess g.row.M.Denot g.row.M-State.Denot g.row.M-Body.Denot). w.model) seen) in
    let late : is_less_than_last (event_cmp g.M.Body.Ord.cmp) c.in-Some.event (split_last (done_in x)) ≡ false = ap (λ (v : Past g.row.M.Denot g.row.M-State.Denot g.row.M-Body.Denot g.row.M-Undo.Denot). is_less_than_last (event_cmp g.M.Body.Ord.cmp) c.in-Some.event (split_last (done_in (seen_of v)))) (c.deref_mut.ensures.value ∙ sym c.deref.ensures) ∙ sym c.is_past.ensures ∙ c.if-is_past.false in
    let q = err_from_is_err_and c.from_residual.result c.from_residual.ensures.1 in
    let this : Err q.0 ≡ Err Exhausted = sym q.1 ∙ is in
    let cause : q.0 ≡ Exhausted = cc in
    let full : g.M.Model.is_exhausted x.model x.state ≡ true = subst (λ m. g.M.Model.is_exhausted m x.state ≡ true) same (c.in_err-execute.ensures.exhausted.0 (ap Err (sym q.2 ∙ cause))) in
    let meets : MeetsNext (event_cmp g.M.Body.Ord.cmp) (process_of x c.lp.inside.pending c.lp.inside.debts c.lp.inside.held.value).process (g.M.Model.is_exhausted x.model) =
    record { next = e; rest = head.0; pending = head.1; in_time = late; passes = full } in
    subst (λ (w : LogicalProcess g.row.M.Denot g.row.M-State.Denot g.row.M-Body.Denot). MeetsNext (event_cmp g.M.Body.Ord.cmp) w.process (g.M.Model.is_exhausted w.model)) seen meets

pub returns-clause-turn : goal.returns-clause-turn
returns-clause-turn g c =
    let o : IsExactOrder (event_cmp g.M.Body.Ord.cmp) = events_exact (record { total = g.met.M.Body.Ord.total; same = g.met.M.Model.same }) in
    let head = first_is c.first.result c.copied-next.result (Some c.in-Some.event) c.lp.inside.pending c.copied-next.ensures c.first.ensures.first c.in-Some.is in
    let p = c.deref_mut.result.now in
    let x = seen_of p in
    let y = rules g.M.Model g.M.Body.Ord.cmp x.model in
    let e = c.in-Some.event in
    let seen : process_of x c.lp.inside.pending c.lp.inside.debts c.lp.inside.held.value ≡ c.args.self = ap (λ (v : Past g.row.M.Denot g.row.M-State.Denot g.row.M-Body.Denot g.row.M-Undo.Denot). process_of (seen_of v) c.lp.inside.pending c.lp.inside.debts c.lp.inside.held.value) c.deref_mut.ensures.value ∙ c.lp.view_is in
    let same : c.args.model.now ≡ x.model = c.requires.model ∙ sym (ap (λ (w : LogicalProcess g.row.M.Denot g.row.M-State.Denot g.row.M-Body.Denot). w.model) seen) in
    let late : is_less_than_last (event_cmp g.M.Body.Ord.cmp) c.in-Some.event (split_last (done_in x)) ≡ false = ap (λ (v : Past g.row.M.Denot g.row.M-State.Denot g.row.M-Body.Denot g.row.M-Undo.Denot). is_less_than_last (event_cmp g.M.Body.Ord.cmp) c.in-Some.event (split_last (done_in (seen_of v)))) (c.deref_mut.ensures.value ∙ sym c.deref.ensures) ∙ sym c.is_past.ensures ∙ c.if-is_past.false in
    let rest : c.take-taken.new.self ≡ head.0 = c.take-taken.ensures.rest ∙ ap (without (event_cmp g.M.Body.Ord.cmp) e) head.1 ∙ without_head o e head.0 in
    let after : seen_of c.execute.new.self ≡ record x { processed = x.processed ++ e ∷ []; state = (g.M.Model.step x.model x.number x.state e).0 } = subst (λ m. seen_of c.execute.new.self ≡ record x { processed = x.processed ++ e ∷ []; state = (g.M.Model.step m x.number x.state e).0 }) same c.in_ok-execute.ensures.after in
    let held : c.execute.new.held ≡ held_after (event_cmp g.M.Body.Ord.cmp) e (g.M.Model.step x.model x.number x.state e).1 c.lp.inside.held.value = subst (λ m. c.execute.new.held ≡ held_after (event_cmp g.M.Body.Ord.cmp) e (g.M.Model.step m x.number x.state e).1 c.lp.inside.held.value) same (c.in_ok-execute.ensures.held ∙ ap (held_after (event_cmp g.M.Body.Ord.cmp) e (g.M.Model.step c.args.model.now x.number x.state e).1) c.deref_mut-2.ensures.value) in
    let given : List (Letter g.row.M-Body.Denot) = letters_given y.order e (y.step x.number x.state e).1 c.lp.inside.held.value in
    let sent : c.execute.new.out.items ≡ c.args.out.now.items ++ given = subst (λ m. c.execute.new.out.items ≡ c.args.out.now.items ++ letters_given y.order e (g.M.Model.step m x.number x.state e).1 c.lp.inside.held.value) same (c.in_ok-execute.ensures.sent ∙ ap (λ l. c.args.out.now.items ++ letters_given y.order e (g.M.Model.step c.args.model.now x.number x.state e).1 l) c.deref_mut-2.ensures.value) in
    let before : ProcessState g.row.M-State.Denot g.row.M-Body.Denot = (process_of x c.lp.inside.pending c.lp.inside.debts c.lp.inside.held.value).process in
    let now : ProcessState g.row.M-State.Denot g.row.M-Body.Denot = (process_of (seen_of c.execute.new.self) c.take-taken.new.self c.lp.inside.debts c.execute.new.held).process in
    let past : HistoryState g.row.M.Denot g.row.M-State.Denot g.row.M-Body.Denot = record x { processed = x.processed ++ e ∷ []; state = (y.step x.number x.state e).0 } in
    let is : now ≡ after_execution y x.number before e head.0 (unheld_sends y.order (y.step x.number x.state e).1 c.lp.inside.held.value).1 =
    ap (λ (h : HistoryState g.row.M.Denot g.row.M-State.Denot g.row.M-Body.Denot). (process_of h c.take-taken.new.self c.lp.inside.debts c.execute.new.held).process) after
    ∙ ap (λ l. (process_of past l c.lp.inside.debts c.execute.new.held).process) rest
    ∙ ap (λ k. (process_of past head.0 c.lp.inside.debts k).process) held in
    subst (λ (w : LogicalProcess g.row.M.Denot g.row.M-State.Denot g.row.M-Body.Denot). (given : List (Letter g.row.M-Body.Denot)) × (c.execute.new.out.items ≡ c.args.out.now.items ++ given) × Took w.process now Done given (execute_next (rules g.M.Model g.M.Body.Ord.cmp w.model) w.number w.process)) seen
    (given, sent, is_executed y x.number before e head.0 head.1 late now given is refl)

pub returns-in_default-clause-balance : goal.returns-in_default-clause-balance
returns-in_default-clause-balance g c =
    let o : IsExactOrder (event_cmp g.M.Body.Ord.cmp) = events_exact (record { total = g.met.M.Body.Ord.total; same = g.met.M.Model.same }) in
    ([], sym (append-nil c.args.out.now.items), unchanged (rules g.M.Model g.M.Body.Ord.cmp c.args.self.model) o c.args.self.number c.args.self.process c.args.self.process refl)

pub returns-then-is_past-clause-balance : goal.returns-then-is_past-clause-balance
returns-then-is_past-clause-balance g c =
    let o : IsExactOrder (event_cmp g.M.Body.Ord.cmp) = events_exact (record { total = g.met.M.Body.Ord.total; same = g.met.M.Model.same }) in
    ([], sym (append-nil c.args.out.now.items), unchanged (rules g.M.Model g.M.Body.Ord.cmp c.args.self.model) o c.args.self.number c.args.self.process c.args.self.process refl)

pub returns-clause-balance : goal.returns-clause-balance
returns-clause-balance g c =
    let o : IsExactOrder (event_cmp g.M.Body.Ord.cmp) = events_exact (record { total = g.met.M.Body.Ord.total; same = g.met.M.Model.same }) in
    let head = first_is c.first.result c.copied-next.result (Some c.in-Some.event) c.lp.inside.pending c.copied-next.ensures c.first.ensures.first c.in-Some.is in
    let p = c.deref_mut.result.now in
    let x = seen_of p in
    let y = rules g.M.Model g.M.Body.Ord.cmp x.model in
    let e = c.in-Some.event in
    let seen : process_of x c.lp.inside.pending c.lp.inside.debts c.lp.inside.held.value ≡ c.args.self = ap (λ (v : Past g.row.M.Denot g.row.M-State.Denot g.row.M-Body.Denot g.row.M-Undo.Denot). process_of (seen_of v) c.lp.inside.pending c.lp.inside.debts c.lp.inside.held.value) c.deref_mut.ensures.value ∙ c.lp.view_is in
    let same : c.args.model.now ≡ x.model = c.requires.model ∙ sym (ap (λ (w : LogicalProcess g.row.M.Denot g.row.M-State.Denot g.row.M-Body.Denot). w.model) seen) in
    let rest : c.take-taken.new.self ≡ head.0 = c.take-taken.ensures.rest ∙ ap (without (event_cmp g.M.Body.Ord.cmp) e) head.1 ∙ without_head o e head.0 in
    let after : seen_of c.execute.new.self ≡ record x { processed = x.processed ++ e ∷ []; state = (g.M.Model.step x.model x.number x.state e).0 } = subst (λ m. seen_of c.execute.new.self ≡ record x { processed = x.processed ++ e ∷ []; state = (g.M.Model.step m x.number x.state e).0 }) same c.in_ok-execute.ensures.after in
    let held : c.execute.new.held ≡ held_after (event_cmp g.M.Body.Ord.cmp) e (g.M.Model.step x.model x.number x.state e).1 c.lp.inside.held.value = subst (λ m. c.execute.new.held ≡ held_after (event_cmp g.M.Body.Ord.cmp) e (g.M.Model.step m x.number x.state e).1 c.lp.inside.held.value) same (c.in_ok-execute.ensures.held ∙ ap (held_after (event_cmp g.M.Body.Ord.cmp) e (g.M.Model.step c.args.model.now x.number x.state e).1) c.deref_mut-2.ensures.value) in
    let given : List (Letter g.row.M-Body.Denot) = letters_given y.order e (y.step x.number x.state e).1 c.lp.inside.held.value in
    let sent : c.execute.new.out.items ≡ c.args.out.now.items ++ given = subst (λ m. c.execute.new.out.items ≡ c.args.out.now.items ++ letters_given y.order e (g.M.Model.step m x.number x.state e).1 c.lp.inside.held.value) same (c.in_ok-execute.ensures.sent ∙ ap (λ l. c.args.out.now.items ++ letters_given y.order e (g.M.Model.step c.args.model.now x.number x.state e).1 l) c.deref_mut-2.ensures.value) in
    let before : ProcessState g.row.M-State.Denot g.row.M-Body.Denot = (process_of x c.lp.inside.pending c.lp.inside.debts c.lp.inside.held.value).process in
    let now : ProcessState g.row.M-State.Denot g.row.M-Body.Denot = (process_of (seen_of c.execute.new.self) c.take-taken.new.self c.lp.inside.debts c.execute.new.held).process in
    let past : HistoryState g.row.M.Denot g.row.M-State.Denot g.row.M-Body.Denot = record x { processed = x.processed ++ e ∷ []; state = (y.step x.number x.state e).0 } in
    let is : now ≡ after_execution y x.number before e head.0 (unheld_sends y.order (y.step x.number x.state e).1 c.lp.inside.held.value).1 =
    ap (λ (h : HistoryState g.row.M.Denot g.row.M-State.Denot g.row.M-Body.Denot). (process_of h c.take-taken.new.self c.lp.inside.debts c.execute.new.held).process) after
    ∙ ap (λ l. (process_of past l c.lp.inside.debts c.execute.new.held).process) rest
    ∙ ap (λ k. (process_of past head.0 c.lp.inside.debts k).process) held in
    let kept : IsKept g.M.Model (event_cmp g.M.Body.Ord.cmp) p = subst (IsKept g.M.Model (event_cmp g.M.Body.Ord.cmp)) (sym c.deref_mut.ensures.value) c.lp.invariant.0 in
    subst (λ (w : LogicalProcess g.row.M.Denot g.row.M-State.Denot g.row.M-Body.Denot). (given : List (Letter g.row.M-Body.Denot)) × (c.execute.new.out.items ≡ c.args.out.now.items ++ given) × Balance (rules g.M.Model g.M.Body.Ord.cmp w.model) w.number w.process now [] given) seen
    (given, sent, execution_balanced y o x.number before now e head.0 given (linked_after g.M.Model o x p.records kept.linked) head.1 is refl)

pub returns-clause-same : goal.returns-clause-same
returns-clause-same g c =
    let seen : process_of (seen_of c.deref_mut.result.now) c.lp.inside.pending c.lp.inside.debts c.lp.inside.held.value ≡ c.args.self = ap (λ (v : Past g.row.M.Denot g.row.M-State.Denot g.row.M-Body.Denot g.row.M-Undo.Denot). process_of (seen_of v) c.lp.inside.pending c.lp.inside.debts c.lp.inside.held.value) c.deref_mut.ensures.value ∙ c.lp.view_is in
    let after = c.in_ok-execute.ensures.after in (
      ap (λ (h : HistoryState g.row.M.Denot g.row.M-State.Denot g.row.M-Body.Denot). h.model) after ∙ ap (λ (w : LogicalProcess g.row.M.Denot g.row.M-State.Denot g.row.M-Body.Denot). w.model) seen,
      ap (λ (h : HistoryState g.row.M.Denot g.row.M-State.Denot g.row.M-Body.Denot). h.number) after ∙ ap (λ (w : LogicalProcess g.row.M.Denot g.row.M-State.Denot g.row.M-Body.Denot). w.number) seen,
    )

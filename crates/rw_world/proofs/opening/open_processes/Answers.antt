use Rattle.std.proofs.Common.{◌≡◌, ◌∷◌, ℕ, suc, ◌<◌, ◌+◌, [], ◌++◌, true, length, map, get_or, append-nil, ⊎_elim, refl, sym, ap, ◌∙◌, subst, arith}
use Rattle.std.specs.Prelude.{filter, ◌==◌}
use Rattle.std.proofs.lemmas.List.{nil_from_length}
use Rattle.std.proofs.lemmas.List.Elements.{All-same}
use Rattle.rw_vt.specs.Order.{event_cmp}
use Rattle.rw_vt.specs.System.{system, map_from}
use Rattle.rw_lp.specs.Calls.{LogicalProcess, new_process}
use Rattle.rw_world.specs.WorldState.{opening_process}
use Rattle.rw_world.proofs.Inboxes.{all_to, drop_head, first_of, rest_of, made_next}
use Rattle.std.proofs.lemmas.Result.{err_from_is_err_and, IfOk-from_err}
use Rattle.rw_world.proofs.opening.open_processes.Goals as goal

pub by_destination-requires : goal.by_destination-requires
by_destination-requires g c = record {
  inside = λ k d within. subst (λ n. (get_or c.args.events.now k d).to < n) (sym c.processes-count.ensures) (g.met.M.Model.ranges c.args.model.now (get_or c.args.events.now k d) (c.requires.ready.valid k d within)).to;
}

pub loop-start-init : goal.loop-start-init
loop-start-init g c =
    let is = c.into_iter-start-iterator.ensures.into_iter_gives in
    let starts : c.into_iter-start-iterator.result.a.rest.items ≡ c.args.starts.items = ap (λ z. z.a.rest.items) is ∙ ap (λ i. i.rest.items) c.zip-start-items.ensures.first ∙ c.into_iter.ensures.rest in
    let boxes : c.into_iter-start-iterator.result.b.rest.items ≡ c.in_ok-inboxes.inboxes.items = ap (λ z. z.b.rest.items) is ∙ c.zip-start-items.ensures.second.0 in
    let as_many : length c.into_iter-start-iterator.result.a.rest.items ≡ c.processes-count.result = ap length starts ∙ c.requires.ready.enough ∙ sym c.processes-count.ensures in
    record {
      room = omega arith;
      boxes = ap length boxes ∙ c.in_ok-inboxes.ensures.len ∙ sym as_many;
      left = starts;
      sorted_out = λ k within.
          let there : k < c.processes-count.result = omega (arith, ap length boxes, c.in_ok-inboxes.ensures.len) in
          let n : k ≡ 0 + k = omega arith in
          ap (λ l. get_or (map (λ j. j.items) l) k []) boxes ∙ c.in_ok-inboxes.ensures.each k there ∙ ap (λ n. filter (λ e. e.to == n) c.args.events.now) n;
      opened = rw (c.in_ok-processes.ensures.items, starts) refl;
    }

pub open_process-requires-clause-start : goal.open_process-requires-clause-start
open_process-requires-clause-start g c =
    let r : c.loop-start.start-iterator.a.rest.items ≡ c.in-Some.start ∷ c.next.new.self.a.rest.items = c.in-Some.ensures.steps.0.0 in
    c.requires.ready.well_formed c.loop-start.number c.in-Some.start (drop_head c.args.starts.items c.loop-start.number c.in-Some.start c.next.new.self.a.rest.items (sym c.loop-start.invariant.left ∙ r)).0

pub open_process-requires-clause-initial : goal.open_process-requires-clause-initial
open_process-requires-clause-initial g c =
    let n = c.loop-start.number in
    let q : c.loop-start.start-iterator.b.rest.items ≡ c.in-Some.inbox ∷ c.next.new.self.b.rest.items = c.in-Some.ensures.steps.1.0 in
    let inbox = first_of (λ j. j.items) c.loop-start.start-iterator.b.rest.items c.in-Some.inbox c.next.new.self.b.rest.items (λ k. filter (λ e. e.to == (n + k)) c.args.events.now) q c.loop-start.invariant.sorted_out in
    let z : n + 0 ≡ n = omega arith in
    let mine : c.in-Some.inbox.items ≡ filter (λ e. e.to == n) c.args.events.now = inbox ∙ ap (λ m. filter (λ e. e.to == m) c.args.events.now) z in
    All-same (λ e. (g.M.Model.is_valid c.args.model.now e ≡ true) × (e.to ≡ n)) _ _ mine (all_to (λ e. g.M.Model.is_valid c.args.model.now e ≡ true) n c.args.events.now c.requires.ready.valid)

pub loop-start-preserved : goal.loop-start-preserved
loop-start-preserved g c =
    let n = c.loop-start.number in
    let known = c.loop-start.invariant in
    let start = c.in-Some.start in
    let rest = c.next.new.self.a.rest.items in
    let made = c.loop-start.processes.items in
    let y = system g.M.Model g.M.Body.Ord.cmp c.args.model.now c.args.starts.items c.args.events.now in
    let opened : ℕ → g.row.M-State.Denot → LogicalProcess g.row.M.Denot g.row.M-State.Denot g.row.M-Body.Denot = λ q s. record { model = c.args.model.now; number = q; process = opening_process y q s } in
    let r : c.loop-start.start-iterator.a.rest.items ≡ start ∷ rest = c.in-Some.ensures.steps.0.0 in
    let q : c.loop-start.start-iterator.b.rest.items ≡ c.in-Some.inbox ∷ c.next.new.self.b.rest.items = c.in-Some.ensures.steps.1.0 in
    let inbox = first_of (λ j. j.items) c.loop-start.start-iterator.b.rest.items c.in-Some.inbox c.next.new.self.b.rest.items (λ k. filter (λ e. e.to == (n + k)) c.args.events.now) q known.sorted_out in
    let z : n + 0 ≡ n = omega arith in
    let mine : c.in-Some.inbox.items ≡ filter (λ e. e.to == n) c.args.events.now = inbox ∙ ap (λ m. filter (λ e. e.to == m) c.args.events.now) z in
    let is = ap (λ l. let p : LogicalProcess g.row.M.Denot g.row.M-State.Denot g.row.M-Body.Denot = record { model = c.args.model.now; number = n; process = new_process (event_cmp g.M.Body.Ord.cmp) start l } in p) mine in
    record {
      room = omega (arith, known.room, ap length r);
      boxes = omega (arith, known.boxes, ap length r, ap length q);
      left = sym (drop_head c.args.starts.items n start rest (sym known.left ∙ r)).1;
      sorted_out = λ k within.
          let further : n + suc k ≡ n + 1 + k = omega arith in
          rest_of (λ j. j.items) c.loop-start.start-iterator.b.rest.items c.in-Some.inbox c.next.new.self.b.rest.items (λ k. filter (λ e. e.to == (n + k)) c.args.events.now) q known.sorted_out k within
          ∙ ap (λ m. filter (λ e. e.to == m) c.args.events.now) further;
      opened = made_next opened made _ _ n start _ rest _ c.in_ok-open_process.ensures.opened is r known.opened;
    }

pub returns-clause-opened : goal.returns-clause-opened
returns-clause-opened g c =
    let known = c.loop-start.invariant in
    let rest = c.loop-start.start-iterator.a.rest in
    let y = system g.M.Model g.M.Body.Ord.cmp c.args.model.now c.args.starts.items c.args.events.now in
    let opened : ℕ → g.row.M-State.Denot → LogicalProcess g.row.M.Denot g.row.M-State.Denot g.row.M-Body.Denot = λ q s. record { model = c.args.model.now; number = q; process = opening_process y q s } in
    let zero : length rest.items ≡ 0 = ⊎_elim (λ starts. sym rest.ok.0 ∙ starts.1.0) (λ boxes. omega (arith, c.loop-start.start-iterator.b.rest.ok.0, boxes.1.0, known.boxes)) c.in-None.ensures.steps in
    let none : rest.items ≡ [] = nil_from_length rest.items zero in
    sym (append-nil c.loop-start.processes.items) ∙ (ap (λ l. c.loop-start.processes.items ++ map_from c.loop-start.number opened l) (sym none) ∙ known.opened)

pub returns-in_err-inboxes : goal.returns-in_err-inboxes
returns-in_err-inboxes g c =
    let p = err_from_is_err_and c.from_residual.result c.from_residual.ensures.1 in
    record { opened = IfOk-from_err _ _ c.from_residual.ensures.0; memory = rw (p.1, p.2) refl }

pub returns-in_err-processes : goal.returns-in_err-processes
returns-in_err-processes g c =
    let p = err_from_is_err_and c.from_residual-in_err-processes.result c.from_residual-in_err-processes.ensures.1 in
    record { opened = IfOk-from_err _ _ c.from_residual-in_err-processes.ensures.0; memory = rw (p.1, p.2) refl }

pub returns-in_err-open_process : goal.returns-in_err-open_process
returns-in_err-open_process g c =
    let p = err_from_is_err_and c.from_residual-in_err-open_process.result c.from_residual-in_err-open_process.ensures.1 in
    record { opened = IfOk-from_err _ _ c.from_residual-in_err-open_process.ensures.0; memory = rw (p.1, p.2) c.in_err-open_process.ensures.memory }

pub open_process-requires-clause-number : goal.open_process-requires-clause-number
open_process-requires-clause-number g c = omega (arith, c.processes-count.ensures, c.loop-start.invariant.room, ap length c.in-Some.ensures.steps.0.0)

pub overflow_add-number : goal.overflow_add-number
overflow_add-number g c = omega (arith, c.processes-count.type_inv, c.loop-start.invariant.room, ap length c.in-Some.ensures.steps.0.0)

use Rattle.std.proofs.Common.{◌<◌, length, sym, ap, ◌∙◌, subst, arith}
use Rattle.std.specs.Prelude.{slice_set}
use Rattle.std.proofs.lemmas.Result.{IfOk-from_err}
use Rattle.rw_vt.specs.Order.{event_cmp}
use Rattle.rw_rounds.specs.Processes.{TellsNext}
use Rattle.rw_rounds.proofs.Looking.{tells_set, tells_nothing, read_there}
use Rattle.rw_rounds.proofs.processes.Processes.advance.Goals as goal

pub invariant_of-self-2 : goal.invariant_of-self-2
invariant_of-self-2 g c =
    let x = c.self.inside in
    let within : c.args.place < length x.items.items = omega (arith, c.requires.place, ap length (ap (λ p. p.items) c.self.view_is)) in
    let set = c.in_ok-put_back.ensures.back x.items.items c.swap_remove-process.result within c.swap_remove-process.ensures.items in
    let told = subst (TellsNext (event_cmp g.M.Body.Ord.cmp) x.items.items) (sym c.replace-next.ensures.value) c.self.invariant in
    subst (λ ls. TellsNext (event_cmp g.M.Body.Ord.cmp) ls c.set.new.self) (sym set)
    (subst (TellsNext (event_cmp g.M.Body.Ord.cmp) (slice_set x.items.items c.args.place c.in_ok-process.process)) (sym c.set.ensures)
    (tells_set (event_cmp g.M.Body.Ord.cmp) x.items.items c.replace-next.result told c.args.place c.in_ok-process.process c.next_of.result c.next_of.ensures))

pub returns : goal.returns
returns g c =
    let x = c.self.inside in
    let items = ap (λ p. p.items) c.self.view_is in
    let within : c.args.place < length x.items.items = omega (arith, c.requires.place, ap length items) in
    let set = c.in_ok-put_back.ensures.back x.items.items c.swap_remove-process.result within c.swap_remove-process.ensures.items in
    record {
      moved = record {
        was = c.swap_remove-process.result;
        is = c.in_ok-process.process;
        there = read_there x.items.items c.args.self.now.items c.args.place c.swap_remove-process.result items c.requires.place c.swap_remove-process.ensures.value;
        set = set ∙ ap (λ ls. slice_set ls c.args.place c.in_ok-process.process) items;
        same = c.in_ok-process.ensures.same;
        by = c.in_ok-process.ensures.moved;
      };
    }

pub swap_remove-process-requires : goal.swap_remove-process-requires
swap_remove-process-requires g c = omega (arith, c.requires.place, ap length (ap (λ p. p.items) c.self.view_is), c.self.inside.items.ok.0)

pub execute_or_undo-requires-clause-model : goal.execute_or_undo-requires-clause-model
execute_or_undo-requires-clause-model g c =
    let items = ap (λ p. p.items) c.self.view_is in
    let there = read_there c.self.inside.items.items c.args.self.now.items c.args.place c.swap_remove-process.result items c.requires.place c.swap_remove-process.ensures.value in
    sym (c.requires.model c.swap_remove-process.result there)

pub execute_or_undo-requires-clause-pending : goal.execute_or_undo-requires-clause-pending
execute_or_undo-requires-clause-pending g c =
    let items = ap (λ p. p.items) c.self.view_is in
    let there = read_there c.self.inside.items.items c.args.self.now.items c.args.place c.swap_remove-process.result items c.requires.place c.swap_remove-process.ensures.value in
    c.requires.pending c.swap_remove-process.result there

pub execute_or_undo-requires-clause-undoable : goal.execute_or_undo-requires-clause-undoable
execute_or_undo-requires-clause-undoable g c =
    let items = ap (λ p. p.items) c.self.view_is in
    let there = read_there c.self.inside.items.items c.args.self.now.items c.args.place c.swap_remove-process.result items c.requires.place c.swap_remove-process.ensures.value in
    c.requires.undoable c.swap_remove-process.result there

pub put_back-requires : goal.put_back-requires
put_back-requires g c = record { place = omega (arith, c.requires.place, ap length (ap (λ p. p.items) c.self.view_is), c.self.inside.items.ok.0, c.swap_remove-process.ensures.len) }

pub invariant_of-self : goal.invariant_of-self
invariant_of-self g c = tells_nothing (event_cmp g.M.Body.Ord.cmp) c.swap_remove-process.new.self.items c.replace-next.new.dest (c.replace-next.ensures.after ∙ c.none.ensures)

pub invariant_of-self-in_err-put_back : goal.invariant_of-self-in_err-put_back
invariant_of-self-in_err-put_back g c = tells_nothing (event_cmp g.M.Body.Ord.cmp) c.put_back.new.items.items c.replace-next.new.dest (c.replace-next.ensures.after ∙ c.none.ensures)

pub returns-in_err-process : goal.returns-in_err-process
returns-in_err-process g c = record { moved = IfOk-from_err c.from_residual.result _ c.from_residual.ensures.0 }

pub returns-in_err-put_back : goal.returns-in_err-put_back
returns-in_err-put_back g c = record { moved = IfOk-from_err c.from_residual-in_err-put_back.result _ c.from_residual-in_err-put_back.ensures.0 }

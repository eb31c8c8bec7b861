use Rattle.std.proofs.Common.{refl, ap}
use Rattle.rw_vt.proofs.Laws.{laws_of}
use Rattle.rw_world.specs.declared.parts.Parts.{Parts}
use Rattle.rw_world.proofs.Openings.{opened_is, opened_whole}
use Rattle.rw_world.proofs.world.World.open.Goals as goal

pub invariant_of-result : goal.invariant_of-result
invariant_of-result g c =
    let laws = laws_of g.met.M.Model g.met.M.Body.Ord.total in
    let x : Parts g.row.M.Denot g.row.M-State.Denot g.row.M-Body.Denot g.row.M-Undo.Denot = record { model = c.args.model; processes = c.in_ok-processes.processes; letters = c.new.result; collected = 0; starts = c.of-named_starts.result; initial = c.of-named_initial.result } in
    opened_whole laws x c.args.starts.items c.args.initial.items c.requires.ready (ap (λ v. v.items) c.of-named_starts.ensures) (ap (λ v. v.items) c.of-named_initial.ensures) c.new.ensures.items refl (rw c.deref.ensures.value at c.in_ok-processes.ensures.opened)

pub returns-clause-opened : goal.returns-clause-opened
returns-clause-opened g c =
    let laws = laws_of g.met.M.Model g.met.M.Body.Ord.total in
    let x : Parts g.row.M.Denot g.row.M-State.Denot g.row.M-Body.Denot g.row.M-Undo.Denot = record { model = c.args.model; processes = c.in_ok-processes.processes; letters = c.new.result; collected = 0; starts = c.of-named_starts.result; initial = c.of-named_initial.result } in
    opened_is laws x c.args.starts.items c.args.initial.items c.requires.ready (ap (λ v. v.items) c.of-named_starts.ensures) (ap (λ v. v.items) c.of-named_initial.ensures) c.new.ensures.items refl (rw c.deref.ensures.value at c.in_ok-processes.ensures.opened)

pub returns-clause-sound : goal.returns-clause-sound
returns-clause-sound g c =
    let laws = laws_of g.met.M.Model g.met.M.Body.Ord.total in
    let x : Parts g.row.M.Denot g.row.M-State.Denot g.row.M-Body.Denot g.row.M-Undo.Denot = record { model = c.args.model; processes = c.in_ok-processes.processes; letters = c.new.result; collected = 0; starts = c.of-named_starts.result; initial = c.of-named_initial.result } in
    (opened_whole laws x c.args.starts.items c.args.initial.items c.requires.ready (ap (λ v. v.items) c.of-named_starts.ensures) (ap (λ v. v.items) c.of-named_initial.ensures) c.new.ensures.items refl (rw c.deref.ensures.value at c.in_ok-processes.ensures.opened)).sound

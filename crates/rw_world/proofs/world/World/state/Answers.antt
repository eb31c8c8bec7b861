use Rattle.std.proofs.Common.{ap, arith, ◌≡◌, ◌<◌, length, map, refl, sym, ◌∙◌, subst, Some}
use Rattle.rw_world.proofs.Made.{processes_count}
use Rattle.std.specs.Prelude.{slice_get}
use Rattle.std.proofs.lemmas.Option.{slice_get_read}
use Rattle.rw_vt.specs.System.{state_after}
use Rattle.rw_world.specs.Sound.{done_of}
use Rattle.rw_world.specs.Calls.{Simulation}
use Rattle.rw_world.proofs.Wholes.{state_there, state_folds}
use Rattle.rw_world.proofs.world.World.state.Goals as goal

pub index-requires : goal.index-requires
index-requires g c =
    let x = c.self.inside.parts in
    let same = ap (λ v. g.M.Model.process_count v.model) c.self.view_is in
    omega (arith, processes_count g.M.Model g.M.Body.Ord.cmp x c.self.invariant, same, c.requires.process)

pub returns-clause-is : goal.returns-clause-is
returns-clause-is g c =
    let x = c.self.inside.parts in
    let same = ap (λ v. g.M.Model.process_count v.model) c.self.view_is in
    let within : c.args.p < length x.processes.items = omega (arith, processes_count g.M.Model g.M.Body.Ord.cmp x c.self.invariant, same, c.requires.process) in
    let there = slice_get_read x.processes.items (length x.processes.items) c.args.p c.index.result.now refl within c.index.ensures in
    subst (λ (v : Simulation g.row.M.Denot g.row.M-State.Denot g.row.M-Body.Denot). slice_get (map (λ u. u.state) v.world.processes) c.args.p ≡ Some c.state.result.now) c.self.view_is
    (state_there x c.self.invariant c.args.p c.index.result.now there ∙ ap Some (sym c.state.ensures.is))

pub returns-clause-fold : goal.returns-clause-fold
returns-clause-fold g c = λ start is.
    let x = c.self.inside.parts in
    let same = ap (λ v. g.M.Model.process_count v.model) c.self.view_is in
    let within : c.args.p < length x.processes.items = omega (arith, processes_count g.M.Model g.M.Body.Ord.cmp x c.self.invariant, same, c.requires.process) in
    let there = slice_get_read x.processes.items (length x.processes.items) c.args.p c.index.result.now refl within c.index.ensures in
    c.state.ensures.is
    ∙ subst (λ (v : Simulation g.row.M.Denot g.row.M-State.Denot g.row.M-Body.Denot). slice_get v.starts c.args.p ≡ Some start → c.index.result.now.process.state ≡ state_after (g.M.Model.step v.model c.args.p) start (done_of v.world.processes c.args.p)) c.self.view_is
    (state_folds x c.self.invariant c.args.p c.index.result.now there start) is

use Rattle.std.proofs.Common.{◌≡◌, ◌<◌, length, refl, sym, ap, ◌∙◌, arith}
use Rattle.std.specs.Option.{option_map}
use Rattle.std.proofs.lemmas.Option.{slice_get-map, slice_get_read}
use Rattle.rw_vt.specs.System.{journal_below}
use Rattle.rw_vt.proofs.Laws.{laws_of}
use Rattle.rw_world.specs.Sound.{list_at, committed_of}
use Rattle.rw_world.specs.Calls.{Simulation, system_of, world_of}
use Rattle.rw_world.proofs.Made.{processes_count}
use Rattle.rw_world.proofs.Wholes.{committed_is}
use Rattle.rw_world.proofs.world.World.journal.Goals as goal

pub returns-clause-in_order : goal.returns-clause-in_order
returns-clause-in_order g c =
    let laws = laws_of g.met.M.Model g.met.M.Body.Ord.total in
    let x = c.self.inside.parts in
    let whole = c.self.invariant in
    let same = ap (λ v. g.M.Model.process_count v.model) c.self.view_is in
    let within : c.args.p < length x.processes.items = omega (arith, processes_count g.M.Model g.M.Body.Ord.cmp x whole, same, c.requires.process) in
    let there = slice_get_read x.processes.items (length x.processes.items) c.args.p c.index.result.now refl within c.index.ensures in
    let mine : committed_of (world_of x).processes c.args.p ≡ c.index.result.now.process.committed = ap (list_at (λ u. u.committed)) (slice_get-map (λ l. l.process) x.processes.items c.args.p ∙ ap (option_map (λ l. l.process)) there) in
    c.journal.ensures ∙ sym mine ∙ committed_is laws x whole c.args.p within
    ∙ ap (λ (v : Simulation g.row.M.Denot g.row.M-State.Denot g.row.M-Body.Denot). journal_below (system_of g.M.Model g.M.Body.Ord.cmp v) v.world.collected c.args.p) c.self.view_is

pub returns-clause-is : goal.returns-clause-is
returns-clause-is g c =
    let x = c.self.inside.parts in
    let same = ap (λ v. g.M.Model.process_count v.model) c.self.view_is in
    let within : c.args.p < length x.processes.items = omega (arith, processes_count g.M.Model g.M.Body.Ord.cmp x c.self.invariant, same, c.requires.process) in
    let there = slice_get_read x.processes.items (length x.processes.items) c.args.p c.index.result.now refl within c.index.ensures in
    let mine : committed_of (world_of x).processes c.args.p ≡ c.index.result.now.process.committed = ap (list_at (λ u. u.committed)) (slice_get-map (λ l. l.process) x.processes.items c.args.p ∙ ap (option_map (λ l. l.process)) there) in
    c.journal.ensures ∙ sym mine ∙ ap (λ (v : Simulation g.row.M.Denot g.row.M-State.Denot g.row.M-Body.Denot). committed_of v.world.processes c.args.p) c.self.view_is

pub index-requires : goal.index-requires
index-requires g c =
    let x = c.self.inside.parts in
    let same = ap (λ v. g.M.Model.process_count v.model) c.self.view_is in
    omega (arith, processes_count g.M.Model g.M.Body.Ord.cmp x c.self.invariant, same, c.requires.process)

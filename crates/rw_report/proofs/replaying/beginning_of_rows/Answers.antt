use Rattle.std.proofs.Common.{◌≡◌, ℕ, List, Some, ◌∙◌, ap, subst}
use Rattle.std.specs.Prelude.{slice_get}
use Rattle.rw_photo.specs.declared.config.Config.{Config}
use Rattle.rw_photo.specs.Cache.{Cache, IsWellFormed}
use Rattle.rw_photo.specs.Simulation.{starts_of}
use Rattle.rw_report.proofs.Runs.{ready}
use Rattle.rw_report.proofs.replaying.beginning_of_rows.Goals as goal

pub returns-clause-starts : goal.returns-clause-starts
returns-clause-starts c = c.in_ok-starts.ensures.states ∙ ap starts_of c.new.ensures

pub returns-clause-initial : goal.returns-clause-initial
returns-clause-initial c = c.in_ok-initial.ensures.events

pub returns-clause-ready : goal.returns-clause-ready
returns-clause-ready c =
    let config : Config = c.args.config.now in
    let starts : List Cache = c.in_ok-starts.starts.items in
    let are : starts ≡ starts_of config = c.in_ok-starts.ensures.states ∙ ap starts_of c.new.ensures in
    let well : (p : ℕ) (s : Cache) → slice_get starts p ≡ Some s → IsWellFormed config p s =
    subst (λ (k : Config). (p : ℕ) (s : Cache) → slice_get starts p ≡ Some s → IsWellFormed k p s) c.new.ensures c.in_ok-starts.ensures.well_formed in
    ready config starts c.in_ok-initial.initial.items are well (c.in_ok-initial.ensures.valid config c.requires)

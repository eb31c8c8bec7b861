-- What a run by steps comes to.
use Rattle.std.proofs.Common.{◌≡◌, ℕ, List, Vec, sym, ◌∙◌, ap, subst}
use Rattle.std.specs.declared.alloc.Global.{Global}
use Rattle.rw_vt.specs.declared.event.Event.{Event}
use Rattle.rw_vt.specs.System.{System, system}
use Rattle.rw_report.specs.declared.sim_fault.SimFault.{SimFault}
use Rattle.rw_photo.specs.declared.body.Body.{Body}
use Rattle.rw_photo.specs.declared.config.Config.{Config}
use Rattle.rw_photo.specs.declared.photo.Photo.{Photo}
use Rattle.rw_photo.specs.contracts.photo.PhotoVtModel.TheImpl as model
use Rattle.rw_photo.specs.contracts.body.BodyOrd.TheImpl as order
use Rattle.rw_photo.specs.Cache.{Cache, is_exhausted}
use Rattle.rw_lp.specs.declared.answer.Answer.{Answer}
use Rattle.rw_world.specs.declared.step.Step.{Step}
use Rattle.rw_world.specs.WorldState.{opening_world}
use Rattle.rw_world.specs.Steps.{answers, run}
use Rattle.rw_world.specs.Calls.{MeetsAt, Simulation}
use Rattle.rw_rounds.specs.declared.stop.Stop.{Stop}
use Rattle.rw_rounds.specs.declared.stop.Stop.TheVariants as stop
use Rattle.rw_engine.specs.Runs.{IsSteppedTo, MayStopBySteps}
use Rattle.rw_report.specs.Beginning.{IsBeginningOf}
use Rattle.rw_report.proofs.Runs.{simulates}
use Rattle.rw_ripqwarp.specs.declared.mode.Mode.TheVariants.{Journal}
use Rattle.rw_ripqwarp.specs.Faults.{sim_stop_of}
use Rattle.rw_report.specs.Journal.{journal_text}
use Rattle.rw_ripqwarp.specs.Simulate.{IsJournalOf, IsRunFault}

-- the caches at work
abbrev pub caches : Photo → List Cache → List (Event Body) → System Cache Body
caches m starts initial = system model.ghosts order.ghosts.cmp m starts initial

-- the journal tells where they lead, and what they answer
pub journaled : (c : Config) (m : Photo) (bytes text : List ℕ) (starts : List Cache) (initial : List (Event Body)) (steps made : List Step) (x : Simulation Photo Cache Body) (given : List Answer)
    → m.config ≡ c → IsBeginningOf c bytes starts initial → made ≡ steps → IsSteppedTo model.ghosts order.ghosts.cmp m starts initial made x given → text ≡ journal_text given x.world
    → IsJournalOf steps c bytes text
journaled c m bytes text starts initial steps made x given config b these stepped told =
    let to = subst (λ ss. IsSteppedTo model.ghosts order.ghosts.cmp m starts initial ss x given) these stepped in
    let same = simulates c m bytes starts initial config b in
    let is : text ≡ journal_text (answers (caches m starts initial) (opening_world (caches m starts initial)) steps) (run (caches m starts initial) (opening_world (caches m starts initial)) steps) =
    told ∙ (ap (λ told. journal_text told x.world) to.answers_are
    ∙ ap (λ (o : Simulation Photo Cache Body). journal_text (answers (caches m starts initial) (opening_world (caches m starts initial)) steps) o.world) to.world_is) in
    record {
      rows = b.rows;
      accepted = b.accepted;
      told = is ∙ ap (λ (y : System Cache Body). journal_text (answers y (opening_world y) steps) (run y (opening_world y) steps)) same;
    }

-- each stop is a fault of the run
stops : (c : Config) (m : Photo) (bytes : List ℕ) (starts : List Cache) (initial : List (Event Body)) (steps : Vec Step Global) (s : Stop) → m.config ≡ c
    → IsBeginningOf c bytes starts initial → MayStopBySteps (caches m starts initial) is_exhausted steps.items s → IsRunFault (Journal steps) c bytes (sim_stop_of s)
stops c m bytes starts initial steps stop.Memory config b may = tt
stops c m bytes starts initial steps stop.Exhausted config b may = (
  record {
    rows = b.rows;
    accepted = b.accepted;
    met = subst (λ (y : System Cache Body). MeetsAt y (opening_world y) is_exhausted steps.items) (simulates c m bytes starts initial config b) may;
  },
  λ bad. bad,
)
stops c m bytes starts initial steps stop.RoundsUsed config b may = absurd may
stops c m bytes starts initial steps stop.BadPlan config b may = absurd may
stops c m bytes starts initial steps stop.NoThread config b may = absurd may

pub stop-is-fault-by-steps : (c : Config) (m : Photo) (bytes : List ℕ) (starts : List Cache) (initial : List (Event Body)) (steps : Vec Step Global) (made : List Step) (s : Stop) (f : SimFault)
    → m.config ≡ c → IsBeginningOf c bytes starts initial → made ≡ steps.items → MayStopBySteps (caches m starts initial) is_exhausted made s → f ≡ sim_stop_of s
    → IsRunFault (Journal steps) c bytes f
stop-is-fault-by-steps c m bytes starts initial steps made s f config b these may is =
    subst (IsRunFault (Journal steps) c bytes) (sym is)
    (stops c m bytes starts initial steps s config b (subst (λ ss. MayStopBySteps (caches m starts initial) is_exhausted ss s) these may))

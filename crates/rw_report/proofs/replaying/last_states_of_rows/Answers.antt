use Rattle.std.proofs.Common.{◌≡◌, ℕ, List, Some, ◌∙◌, ap, subst}
use Rattle.std.proofs.lemmas.Result.{IfOk-from_err}
use Rattle.std.specs.Prelude.{slice_get}
use Rattle.std.specs.Result.{IfErr, IfOk}
use Rattle.rw_vt.specs.Limits.{end_of_time}
use Rattle.rw_vt.specs.System.{IsOutcome, Meets, System}
use Rattle.rw_vt.specs.declared.refusal.Refusal.{Refusal}
use Rattle.rw_vt.specs.declared.refusal.Refusal.TheVariants as refusal
use Rattle.rw_vt.specs.declared.event.Event.{Event}
use Rattle.rw_photo.specs.declared.body.Body.{Body}
use Rattle.rw_photo.specs.declared.config.Config.{Config}
use Rattle.rw_photo.specs.Cache.{Cache, IsWellFormed, is_exhausted}
use Rattle.rw_photo.specs.Simulation.{simulation, starts_of}
use Rattle.rw_report.proofs.Failing.{handed-on}
use Rattle.rw_report.proofs.Runs.{ready, ready-at, runs-rows}
use Rattle.rw_report.proofs.replaying.last_states_of_rows.Goals as goal

pub last_states-requires : goal.last_states-requires
last_states-requires g c = record { ready = ready-at c.args.config.now c.new-photo.result c.in_ok-starts.starts.items c.in_ok-starts.initial.items c.new-photo.ensures c.in_ok-starts.ensures.ready }

pub last_states_from-requires : goal.last_states_from-requires
last_states_from-requires g c =
    let config : Config = c.args.config.now in
    let starts : List Cache = c.in_ok-starts-2.starts.items in
    let are : starts ≡ starts_of config = c.in_ok-starts-2.ensures.states ∙ ap starts_of c.new-photo.ensures in
    let well : (p : ℕ) (s : Cache) → slice_get starts p ≡ Some s → IsWellFormed config p s =
    subst (λ (k : Config). (p : ℕ) (s : Cache) → slice_get starts p ≡ Some s → IsWellFormed k p s) c.new-photo.ensures c.in_ok-starts-2.ensures.well_formed in
    record { ready = ready-at config c.new-photo.result starts c.in-Some.source c.new-photo.ensures (ready config starts c.in-Some.source are well (c.in-Some.ensures.valid config c.requires)) }

pub returns-clause-outcome : goal.returns-clause-outcome
returns-clause-outcome g c =
    subst (λ (y : System Cache Body). IfOk c.last_states_from.result (λ states. (journals : List (List (Event Body))) × IsOutcome y end_of_time journals states.items))
    (runs-rows c.args.config.now c.new-photo.result c.args.rows.now c.in_ok-starts-2.starts.items c.in-Some.source c.new-photo.ensures (c.in_ok-starts-2.ensures.states ∙ ap starts_of c.new-photo.ensures) c.in-Some.ensures.events)
    c.last_states_from.ensures.outcome

pub returns-in_err-starts-clause-outcome : goal.returns-in_err-starts-clause-outcome
returns-in_err-starts-clause-outcome g c = IfOk-from_err c.from_residual.result _ c.from_residual.ensures.0

pub returns-in_err-starts-clause-exhausted : goal.returns-in_err-starts-clause-exhausted
returns-in_err-starts-clause-exhausted g c =
    handed-on c.from_residual.result refusal.Memory (λ (r : Refusal). r ≡ refusal.Exhausted → Meets (simulation c.args.config.now c.args.rows.now) end_of_time is_exhausted) c.from_residual.ensures.1 (λ same. absurd cc)

pub returns-in_err-starts-2-clause-outcome : goal.returns-in_err-starts-2-clause-outcome
returns-in_err-starts-2-clause-outcome g c = IfOk-from_err c.from_residual-in_err-starts-2.result _ c.from_residual-in_err-starts-2.ensures.0

pub returns-in_err-starts-2-clause-exhausted : goal.returns-in_err-starts-2-clause-exhausted
returns-in_err-starts-2-clause-exhausted g c =
    handed-on c.from_residual-in_err-starts-2.result refusal.Memory (λ (r : Refusal). r ≡ refusal.Exhausted → Meets (simulation c.args.config.now c.args.rows.now) end_of_time is_exhausted) c.from_residual-in_err-starts-2.ensures.1 (λ same. absurd cc)

pub returns-in_default-clause-outcome : goal.returns-in_default-clause-outcome
returns-in_default-clause-outcome g c =
    subst (λ (y : System Cache Body). IfOk c.last_states.result (λ states. (journals : List (List (Event Body))) × IsOutcome y end_of_time journals states.items))
    (runs-rows c.args.config.now c.new-photo.result c.args.rows.now c.in_ok-starts.starts.items c.in_ok-starts.initial.items c.new-photo.ensures c.in_ok-starts.ensures.starts c.in_ok-starts.ensures.initial)
    c.last_states.ensures.outcome

pub returns-in_default-clause-exhausted : goal.returns-in_default-clause-exhausted
returns-in_default-clause-exhausted g c =
    subst (λ (y : System Cache Body). IfErr c.last_states.result (λ r. r ≡ refusal.Exhausted → Meets y end_of_time is_exhausted))
    (runs-rows c.args.config.now c.new-photo.result c.args.rows.now c.in_ok-starts.starts.items c.in_ok-starts.initial.items c.new-photo.ensures c.in_ok-starts.ensures.starts c.in_ok-starts.ensures.initial)
    c.last_states.ensures.exhausted

pub returns-clause-exhausted : goal.returns-clause-exhausted
returns-clause-exhausted g c =
    subst (λ (y : System Cache Body). IfErr c.last_states_from.result (λ r. r ≡ refusal.Exhausted → Meets y end_of_time is_exhausted))
    (runs-rows c.args.config.now c.new-photo.result c.args.rows.now c.in_ok-starts-2.starts.items c.in-Some.source c.new-photo.ensures (c.in_ok-starts-2.ensures.states ∙ ap starts_of c.new-photo.ensures) c.in-Some.ensures.events)
    c.last_states_from.ensures.exhausted

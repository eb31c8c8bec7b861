-- A run of rows that others follow, none of them before its time: what is met on its way is met on theirs.
use Rattle.std.proofs.Common.{◌≡◌, ℕ, ◌+◌, ◌≤◌, ◌^◌, Bool, List, ◌++◌, true, refl, sym, ◌∙◌, subst, arith, inl, inr, length}
use Rattle.std.specs.Prelude.{All}
use Rattle.std.proofs.lemmas.List.Elements.{All-weaker}
use Rattle.rw_vt.specs.declared.event.Event.{Event}
use Rattle.rw_vt.specs.Moments.{HasReached, waiting_at}
use Rattle.rw_vt.specs.Order.{Has}
use Rattle.rw_vt.specs.Rest.{MayCome}
use Rattle.rw_vt.specs.System.{System, IsReady, Meets, journal_below, map_from, state_after}
use Rattle.rw_vt.proofs.Moments.{midway_journals, reached_late, reached_midway}
use Rattle.rw_vt.proofs.Rest.{done_below, midway_more, more_lawful}
use Rattle.rw_vt.proofs.Runs.{IsLawful, earlier_at_most}
use Rattle.rw_vt.proofs.Sorting.{Has-append, each_of_all}
use Rattle.rw_trace.specs.declared.Row.{Row}
use Rattle.rw_trace.specs.Laws.{IsRow}
use Rattle.rw_photo.specs.declared.config.Config.{Config}
use Rattle.rw_photo.specs.contracts.photo.PhotoVtModel.TheImpl as model
use Rattle.rw_photo.specs.Cache.{is_exhausted}
use Rattle.rw_photo.specs.Events.{event_of}
use Rattle.rw_photo.specs.Simulation.{simulation, starts_of}
use Rattle.rw_photo.proofs.ValidRows.{valid-rows}
use Rattle.rw_report.proofs.Taking.{events_joined, law_of, may_come, ready_joined}

module _ {S B : Type 0} (y : System S B) {WellFormed : ℕ → S → Type 0} (law : IsLawful y WellFormed) (t : ℕ) (more : List (Event B)) (come : All (MayCome y.rules t) more) where
  same_journals : (q : ℕ) → journal_below y t q ≡ journal_below (record y { initial = y.initial ++ more }) t q
  same_journals =
      let o = law.rules.exact in
      let states = map_from 0 (λ q s. state_after (y.rules.step q) s (journal_below y t q)) y.starts in
      let reached : HasReached y t states (waiting_at y t) = record { states_are = (map_from 0 (λ q _. journal_below y t q) y.starts, record { journals_are = refl; states_are = refl }); waiting_are = λ e. refl } in
      let valid = All-weaker (MayCome y.rules t) (λ e. y.rules.valid e ≡ true) (λ e m. m.valid) more come in
      let early = (done_below y law t).early in
      let from : (a : Event B) → Has y.rules.order more a → t ≤ a.time = λ a h. (each_of_all o (MayCome y.rules t) more come a h).from in
      let mid = midway_more y law (λ q. journal_below y t q) (waiting_at y t) more (reached_midway y law t states (waiting_at y t) reached) valid (λ q a b h k. let l = early q a h in let m = from b k in earlier_at_most law.rules a b (omega arith)) in
      midway_journals (record y { initial = y.initial ++ more }) (more_lawful y law more valid) t (λ q. journal_below y t q) (waiting_at y t ++ more) mid
      (λ a h. elim (Has-append o a (waiting_at y t) more h) [ inl m ↦ reached_late y law t states (waiting_at y t) reached a m | inr m ↦ from a m ]) early

  pub meets_with_more : (test : S → Bool) → Meets y t test → Meets (record y { initial = y.initial ++ more }) t test
  meets_with_more test met = record {
    process = met.process;
    start = met.start;
    done = met.done;
    next = met.next;
    rest = met.rest;
    starts_there = met.starts_there;
    on_the_way = sym (same_journals met.process) ∙ met.on_the_way;
    passes = met.passes;
  }

-- rows that may be run with those before them
pub ready_longer : (c : Config) (rows piece : List Row) → length rows + length piece ≤ 2 ^ 64 → All (IsRow c.edges) piece → IsReady model.ghosts (record { config = c }) (starts_of c) (map_from 0 event_of rows)
    → IsReady model.ghosts (record { config = c }) (starts_of c) (map_from 0 event_of (rows ++ piece))
ready_longer c rows piece few ranges ready = ready_joined c rows piece (length rows) refl (valid-rows c (length rows) piece few ranges) ready

pub meets_longer : (c : Config) (rows piece : List Row) (t : ℕ) → length rows + length piece ≤ 2 ^ 64 → All (IsRow c.edges) piece → All (λ row. t ≤ row.time) piece → IsReady model.ghosts (record { config = c }) (starts_of c) (map_from 0 event_of rows)
    → Meets (simulation c rows) t is_exhausted → Meets (simulation c (rows ++ piece)) t is_exhausted
meets_longer c rows piece t few ranges late ready met =
    let valid = valid-rows c (length rows) piece few ranges in
    subst (λ initial. Meets (record (simulation c rows) { initial = initial }) t is_exhausted) (events_joined rows piece (length rows) refl)
    (meets_with_more (simulation c rows) (law_of c rows ready) t (map_from (length rows) event_of piece) (may_come c rows t (length rows) piece late valid) is_exhausted met)

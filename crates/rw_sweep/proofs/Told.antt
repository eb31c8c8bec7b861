-- What is told of the moments of a run tells of the run.
use Rattle.std.proofs.Common.{◌≡◌, ℕ, ◌+◌, ◌*◌, List, [], ◌∷◌, Option, None, refl, sym, ap, subst, ◌∙◌, arith, length, map}
use Rattle.std.specs.Prelude.{unwrap_or}
use Rattle.rw_vt.specs.Limits.{end_of_time}
use Rattle.rw_vt.specs.Moments.{waiting_at}
use Rattle.rw_vt.specs.System.{IsReady, map_from}
use Rattle.rw_trace.specs.declared.Row.{Row}
use Rattle.rw_photo.specs.declared.config.Config.{Config}
use Rattle.rw_photo.specs.contracts.photo.PhotoVtModel.TheImpl as model
use Rattle.rw_photo.specs.Events.{event_of}
use Rattle.rw_photo.specs.Simulation.{simulation, starts_of}
use Rattle.std.specs.Option.{is_some}
use Rattle.rw_report.specs.declared.format.Format.{Format}
use Rattle.rw_report.specs.declared.format.Format.TheVariants as format
use Rattle.rw_report.specs.declared.intervals.Outlook.{Outlook}
use Rattle.rw_report.specs.declared.moments.Moment.{Moment}
use Rattle.rw_report.specs.History.{IsHistory}
use Rattle.rw_report.specs.Intervals.{last_counters}
use Rattle.rw_report.proofs.Adding.{add_up}
use Rattle.rw_report.proofs.Told.{last-counted, last_is, last_states}
use Rattle.rw_sweep.specs.declared.choice.Choice.{Choice}
use Rattle.rw_sweep.specs.OverTime.{HasLines, TellsOfChoice, header_under, in_format, told_of_choice}
use Rattle.rw_sweep.specs.Parts.{text_of_lines}
use Rattle.rw_sweep.specs.Facts.{facts_of}
use Rattle.rw_sweep.specs.Table.{conditions, sweep_lines}
use Rattle.rw_vt.specs.Words.{Count, Position}

-- a history by the marks of an outlook
pub history-of : (c : Config) (rows : List Row) (start every : ℕ) (o : Outlook) (ms : List Moment) → start ≡ unwrap_or o.warm_up 0 → every ≡ unwrap_or o.every end_of_time → IsHistory (simulation c rows) start every ms
    → IsHistory (simulation c rows) (unwrap_or o.warm_up 0) (unwrap_or o.every end_of_time) ms
history-of c rows start every o ms first second h =
    subst (λ t. IsHistory (simulation c rows) t (unwrap_or o.every end_of_time) ms) first (subst (λ t. IsHistory (simulation c rows) start t ms) second h)

-- ---- what is told of the moments

module _ (c : Config) (rows : List Row) (ready : IsReady model.ghosts (record { config = c }) (starts_of c) (map_from 0 event_of rows)) (x : Choice) (ticks : Option Count) (place : Option Position) where
  -- the counters by the last moment are those of the outcome
  lines-of-last : (start every : ℕ) (ms : List Moment) → IsHistory (simulation c rows) start every ms → (text : List ℕ)
      → ((m : Moment) (later : List Moment) → ms ≡ m ∷ later → text ≡ text_of_lines place (sweep_lines c x (conditions ticks None (facts_of rows)) (last_counters (m ∷ later)))) → HasLines c x ticks place rows text
  lines-of-last start every [] history text is = absurd (let count = history.count in omega (arith, count))
  lines-of-last start every (m ∷ ms) history text is =
      let count = history.count in
      let many : length ms ≡ history.more = omega (arith, count) in
      let last = last_is (simulation c rows) every start m ms history.moments in
      let ended = subst (λ n. waiting_at (simulation c rows) (start + n * every) ≡ []) (sym many) history.ended in
      let states = last_states c rows ready (start + length ms * every) last.states last.states_are ended in
      record {
        lines = sweep_lines c x (conditions ticks None (facts_of rows)) (map (λ s. s.counters) last.states);
        tell = record { journals = states.0; states = last.states; outcome = states.1; told = refl };
        told = is m ms refl ∙ ap (λ ks. text_of_lines place (sweep_lines c x (conditions ticks None (facts_of rows)) ks)) (last-counted m ms ∙ last.counted);
      }

  pub tells-of-choice : (o : Outlook) (ms : List Moment) (text : List ℕ) → IsHistory (simulation c rows) (unwrap_or o.warm_up 0) (unwrap_or o.every end_of_time) ms → text ≡ in_format o.format (header_under (is_some place) o.every) (told_of_choice c x (conditions ticks o.warm_up (facts_of rows)) place o.every ms)
      → TellsOfChoice c x ticks place o rows text
  tells-of-choice o ms text history is =
      record {
        history = ms;
        is = history;
        told = is;
        lines = λ no_warm_up no_every no_json. lines-of-last (unwrap_or o.warm_up 0) (unwrap_or o.every end_of_time) ms history text (λ m later parts. (is ∙ as-lines o.format _ _ no_json) ∙ ap (told_of_choice c x (conditions ticks o.warm_up (facts_of rows)) place o.every) parts ∙ plain no_warm_up no_every m later);
        add_up = add_up c ms;
      }
    where
      as-lines : (f : Format) (header lines : List ℕ) → (f ≡ format.Json → ⊥) → in_format f header lines ≡ lines
      as-lines format.Text header lines other = refl
      as-lines format.Csv header lines other = refl
      as-lines format.Json header lines other = absurd (other refl)

      plain : o.warm_up ≡ None → o.every ≡ None → (m : Moment) (later : List Moment) → told_of_choice c x (conditions ticks o.warm_up (facts_of rows)) place o.every (m ∷ later) ≡ text_of_lines place (sweep_lines c x (conditions ticks None (facts_of rows)) (last_counters (m ∷ later)))
      plain no_warm_up no_every m later = rw (no_warm_up, no_every) refl

use Rattle.std.proofs.Common.{◌≡◌, List, None, refl, ap, ◌∙◌, map}
use Rattle.rw_photo.specs.declared.config.Config.{Config}
use Rattle.rw_photo.specs.declared.counters.Counters.{Counters}
use Rattle.rw_photo.specs.Cache.{Cache}
use Rattle.rw_sweep.specs.Parts.{text_of_lines}
use Rattle.rw_sweep.specs.Facts.{facts_of}
use Rattle.rw_sweep.specs.Table.{conditions, sweep_lines}
use Rattle.rw_sweep.proofs.running.lines_of.Goals as goal

pub returns-clause-text : goal.returns-clause-text
returns-clause-text c =
    let config : Config = c.args.point.now.config in
    let ticks = c.args.point.now.ticks_a_second in
    let counted : Cache → Counters = λ s. s.counters in
    let states : List Cache = c.in_ok-states.states.items in
    let all : c.as_slice-2.result.now ≡ map counted states = c.as_slice-2.ensures.value ∙ c.in_ok-counters.ensures ∙ ap (map counted) c.as_slice.ensures.value in
    record {
      lines = sweep_lines config c.args.point.now.choice (conditions ticks None (facts_of c.args.rows.now)) (map counted states);
      tell = record {
        journals = c.in_ok-states.ensures.outcome.0;
        states = states;
        outcome = c.in_ok-states.ensures.outcome.1;
        told = refl;
      };
      told = c.in_ok-text.ensures ∙ (λ i. text_of_lines c.args.point.now.place (sweep_lines config c.args.point.now.choice (conditions ticks None (c.requires.facts i)) (all i)));
    }

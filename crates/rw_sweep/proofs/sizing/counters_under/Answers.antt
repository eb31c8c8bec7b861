use Rattle.std.proofs.Common.{ap, ◌∙◌, map}
use Rattle.rw_photo.specs.declared.counters.Counters.{Counters}
use Rattle.rw_photo.specs.Cache.{Cache}
use Rattle.rw_sweep.proofs.sizing.counters_under.Goals as goal

pub returns-clause-counted : goal.returns-clause-counted
returns-clause-counted c =
    let counted : Cache → Counters = λ s. s.counters in
    record {
      journals = c.in_ok-states.ensures.outcome.0;
      states = c.in_ok-states.states.items;
      outcome = c.in_ok-states.ensures.outcome.1;
      counted = c.in_ok-counters.ensures ∙ ap (map counted) c.as_slice.ensures.value;
    }

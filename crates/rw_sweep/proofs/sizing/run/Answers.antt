-- The configuration keeps its edges, and what its caches have counted is one more try.
use Rattle.std.proofs.Common.{◌∙◌, All, refl, sym, ap, subst}
use Rattle.rw_trace.specs.Laws.{IsRow}
use Rattle.rw_photo.specs.declared.config.Config.{Config}
use Rattle.rw_sweep.specs.Sizing.{AreCountersOf, is_reached}
use Rattle.rw_sweep.specs.declared.sizing.Try.{Try}
use Rattle.rw_sweep.proofs.Halving.{edges-kept}
use Rattle.rw_sweep.proofs.sizing.run.Goals as goal

pub counters_under-requires : goal.counters_under-requires
counters_under-requires c =
    let search = c.args.search.now in
    let same = ap (λ (k : Config). k.edges) c.config_with-config.ensures ∙ edges-kept search.config search.tier c.args.blocks in
    subst (λ n. All (IsRow n) c.args.rows.now) (sym same) c.requires.rows

pub returns-clause-tried : goal.returns-clause-tried
returns-clause-tried c =
    let search = c.args.search.now in
    let added : Try = record { blocks = c.args.blocks; counters = c.in_ok-counters.counters } in
    record {
      added = added;
      is_try = record {
        least = c.requires.least;
        most = c.requires.most;
        counted = subst (λ (k : Config). AreCountersOf k c.args.rows.now added.counters.items) c.config_with-config.ensures c.in_ok-counters.ensures.counted;
      };
      blocks = refl;
      told = c.is_reached-reached.ensures ∙ ap (is_reached search) c.as_slice.ensures.value;
      after_is = c.in_ok-push.ensures.items;
    }

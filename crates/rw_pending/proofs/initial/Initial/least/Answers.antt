use Rattle.std.proofs.Common.{◌∙◌, ap, subst, sym}
use Rattle.std.specs.Option.{option_map}
use Rattle.rw_pending.specs.Later.{IsLeastTime, never, or_else}
use Rattle.rw_pending.proofs.Moving.{least_of_first}
use Rattle.rw_pending.proofs.initial.Initial.least.Goals as goal

pub returns-clause-least : goal.returns-clause-least
returns-clause-least g c =
    let first = c.first.ensures in
    record {
      found = c.time_of.result;
      least = subst (IsLeastTime c.args.self.now) (sym c.time_of.ensures) (least_of_first g.B.Ord.cmp c.args.self.now c.first.result first.first first.least);
      value = c.or_never.ensures.value;
      within = c.or_never.ensures.within;
    }

pub returns-clause-first : goal.returns-clause-first
returns-clause-first g c = c.or_never.ensures.value ∙ ap (or_else never) (c.time_of.ensures ∙ ap (option_map (λ e. e.time)) c.first.ensures.first)

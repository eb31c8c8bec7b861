use Rattle.std.proofs.Common.{◌≡◌, ◌++◌, ◌∷◌, [], ℕ, List, None, true, refl, rules, sym, ap, ◌∙◌, map, take, take_all}
use Rattle.std.specs.Result.{is_ok}
use Rattle.std.proofs.lemmas.List.{map-append, take_more}
use Rattle.std.proofs.lemmas.List.Elements.{All-same, All-push}
use Rattle.rw_sweep.specs.declared.axes.Axes.{Axes}
use Rattle.rw_sweep.specs.declared.choice.Choice.{Choice}
use Rattle.rw_sweep.specs.declared.point.Point.{Point}
use Rattle.rw_sweep.specs.Grids.{IsInGridRanges}
use Rattle.rw_sweep.specs.Points.{IsPlain, IsPoint}
use Rattle.rw_sweep.proofs.InRange.{choices-in-range}
use Rattle.rw_sweep.proofs.grid.points.Goals as goal

pub loop-choice-preserved : goal.loop-choice-preserved
loop-choice-preserved c =
    let a : Axes = c.args.axes.now in
    let n : ℕ = c.loop-choice.choice-index in
    let choices : List Choice = c.args.choices.now in
    let points : List Point = c.loop-choice.points.items in
    let choice : Choice = c.choice-item.result in
    let point : Point = record { place = None; choice = choice; config = c.in-Some.config; outlook = None; ticks_a_second = a.ticks_a_second; facts = c.none.result } in
    let good : is_ok c.push.result ≡ true = search rules in
    let pushed : c.push.new.self.items ≡ points ++ point ∷ [] = rw good at c.push.ensures.items in
    let is : IsPoint a point = record { in_range = c.in-Some.ensures.found.0 refl; config_is = c.in-Some.ensures.config; ticks = refl } in
    record {
      choices = ap (map (λ p. p.choice)) pushed ∙ (map-append (λ p. p.choice) points (point ∷ [])
          ∙ (ap (λ xs. xs ++ choice ∷ []) c.loop-choice.invariant.choices
          ∙ (ap (λ x. take n choices ++ x ∷ []) c.choice-item.is ∙ sym (take_more choices n choice c.loop-choice-test.true))));
      each = All-same (IsPoint a) _ _ pushed (All-push (IsPoint a) points point c.loop-choice.invariant.each is);
      plain = All-same IsPlain _ _ pushed (All-push IsPlain points point c.loop-choice.invariant.plain (record { unplaced = refl; lines = refl }));
    }

pub returns-clause-in_range : goal.returns-clause-in_range
returns-clause-in_range c =
    let a : Axes = c.args.axes.now in
    let choices : List Choice = c.args.choices.now in
    let all : take c.loop-choice.choice-index choices ≡ choices = take_all c.loop-choice.choice-index choices c.loop-choice-test.false in
    All-same IsInGridRanges choices _ (sym (c.loop-choice.invariant.choices ∙ all)) (choices-in-range a c.loop-choice.points.items c.loop-choice.invariant.each)

pub returns-clause-choices : goal.returns-clause-choices
returns-clause-choices c = c.loop-choice.invariant.choices ∙ take_all c.loop-choice.choice-index c.args.choices.now c.loop-choice-test.false

use Rattle.std.proofs.Common.{◌++◌, ◌∷◌, [], eqb, length, not, List, ℕ, rules, tests, sym, ◌∙◌, ap, map}
use Rattle.std.specs.List.{flat_map}
use Rattle.std.proofs.lemmas.List.{flat_map_more, map-append}
use Rattle.std.proofs.lemmas.Iterator.Consumers.{YieldsList-at, YieldsList-end, YieldsList-from_filter}
use Rattle.std.proofs.lemmas.Iterator.Splits.{YieldsList-from_slice_split}
use Rattle.rw_report.specs.Formats.{json_object}
use Rattle.rw_report.proofs.format.json_lines.Goals as goal

pub loop-line-preserved : goal.loop-line-preserved
loop-line-preserved c =
    let names : List ℕ = c.first_line-names.result.now in
    c.in_ok-write_object.ensures
    ∙ ap (λ l. l ++ json_object names c.in-Some.line.now) c.loop-line.invariant
    ∙ flat_map_more (json_object names) [] (map (λ x. x.now) c.loop-line.yielded) c.in-Some.line.now
    ∙ ap (flat_map (json_object names)) (sym (map-append (λ x. x.now) c.loop-line.yielded (c.in-Some.line ∷ [])))

pub returns : goal.returns
returns c =
    let all = YieldsList-end
    (YieldsList-at c.into_iter-line-iterator.ensures.into_iter_gives (YieldsList-from_filter _ (λ line. not (eqb (length line) 0))
    (YieldsList-at c.filter-line-items.ensures.source (YieldsList-from_slice_split _ (λ b. eqb b 10) c.args.lines.now c.split.ensures.rest c.split.ensures.done c.split.ensures.closure (λ x r q k. search (rules, tests))))
    c.filter-line-items.ensures.closure (λ x r q k. search (rules, tests))))
    c.loop-line.yielded _ c.loop-line.yielded_by _ _ c.in-None.is c.next.ensures.steps in
    c.loop-line.invariant ∙ (λ i. flat_map (json_object (c.first_line-names.ensures i)) (all.0 i))

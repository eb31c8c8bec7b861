use Rattle.std.proofs.Common.{◌≡◌, ◌*◌, ◌+◌, [], ◌∷◌, ◌++◌, ap, ◌∙◌, None, replicate, arith}
use Rattle.std.proofs.lemmas.List.{replicate_more}
use Rattle.rw_vt.specs.Order.{event_cmp}
use Rattle.rw_rounds.proofs.Winning.{none_placed, none_left}
use Rattle.rw_rounds.proofs.tournament.Tournament.new.Goals as goal

pub loop-place-init : goal.loop-place-init
loop-place-init g c = c.in_ok-nodes.ensures.items

pub loop-place-preserved : goal.loop-place-preserved
loop-place-preserved g c =
    let two : 2 * c.loop-place._place + 1 + 1 ≡ 2 * (c.loop-place._place + 1) = omega arith in
    c.in_ok-push-2.ensures.items
    ∙ ap (λ l. l ++ None ∷ []) (c.in_ok-push.ensures.items ∙ ap (λ l. l ++ None ∷ []) c.loop-place.invariant ∙ replicate_more (2 * c.loop-place._place) None)
    ∙ replicate_more (2 * c.loop-place._place + 1) None
    ∙ ap (λ m. replicate m None) two

pub invariant_of-result : goal.invariant_of-result
invariant_of-result g c =
    let all : c.loop-place._place ≡ c.args.places = omega (arith, c.loop-place-test.false, c.loop-place.auto._place-end) in
    none_placed (event_cmp g.M.Body.Ord.cmp) c.args.places c.loop-place.nodes.items (c.loop-place.invariant ∙ ap (λ m. replicate (2 * m) None) all)

pub returns : goal.returns
returns g c =
    let all : c.loop-place._place ≡ c.args.places = omega (arith, c.loop-place-test.false, c.loop-place.auto._place-end) in
    none_left c.args.places c.loop-place.nodes.items (c.loop-place.invariant ∙ ap (λ m. replicate (2 * m) None) all)

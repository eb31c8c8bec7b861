use Rattle.std.proofs.Common.{◌≡◌, ◌≢◌, ◌+◌, ◌*◌, ◌<◌, ℕ, length, refl, sym, ap, ◌∙◌, subst, arith, None}
use Rattle.std.specs.Prelude.{◌/◌}
use Rattle.std.proofs.lemmas.List.{get_or-set_same, get_or-set_other}
use Rattle.rw_vt.specs.Order.{event_cmp}
use Rattle.rw_rounds.specs.Tournament.{node_at, winner, IsPlayed}
use Rattle.rw_rounds.proofs.Winning.{play_above, play_same}
use Rattle.rw_rounds.proofs.tournament.replay.Goals as goal

pub loop-node-preserved : goal.loop-node-preserved
loop-node-preserved g c =
    let before = c.loop-node.nodes in
    let node = c.loop-node.node / 2 in
    let long : length before ≡ length c.args.nodes.now = c.loop-node.auto.nodes in
    let positive : 0 < node = omega arith in
    let inside : 2 * node + 1 < length before = omega (arith, c.loop-node.invariant.within, long, c.requires.size) in
    let won = winner (event_cmp g.M.Body.Ord.cmp) (node_at before (2 * node)) (node_at before (2 * node + 1)) in
    let others : (k : ℕ) → 0 < k → 2 * k + 1 < length before → k ≢ node → IsPlayed (event_cmp g.M.Body.Ord.cmp) before k = λ k above low. c.loop-node.invariant.others k above (omega arith) in
    record {
      within = omega (arith, c.loop-node.invariant.within);
      others = λ k above low apart. subst (λ ns. IsPlayed (event_cmp g.M.Body.Ord.cmp) ns k) (sym c.play.ensures.won) (play_above (event_cmp g.M.Body.Ord.cmp) before node others won refl positive inside k above (omega arith) apart);
      same = λ k high. ap (λ ns. node_at ns k) c.play.ensures.won ∙ get_or-set_other before node k won None (omega arith) ∙ c.loop-node.invariant.same k high;
    }

pub returns-then-not-play-clause-played : goal.returns-then-not-play-clause-played
returns-then-not-play-clause-played g c =
    let before = c.loop-node.nodes in
    let node = c.loop-node.node / 2 in
    let long : length before ≡ length c.args.nodes.now = c.loop-node.auto.nodes in
    let inside : 2 * node + 1 < length before = omega (arith, c.loop-node.invariant.within, long, c.requires.size) in
    let won = winner (event_cmp g.M.Body.Ord.cmp) (node_at before (2 * node)) (node_at before (2 * node + 1)) in
    let others : (k : ℕ) → 0 < k → 2 * k + 1 < length before → k ≢ node → IsPlayed (event_cmp g.M.Body.Ord.cmp) before k = λ k above low. c.loop-node.invariant.others k above (omega arith) in
    let same = c.play.ensures.same c.if-not-play.true in
    let here : node_at before node ≡ won = ap (λ ns. node_at ns node) (sym same ∙ c.play.ensures.won) ∙ get_or-set_same before node won None (omega arith) in
    λ k above low. subst (λ ns. IsPlayed (event_cmp g.M.Body.Ord.cmp) ns k) (sym same) (play_same (event_cmp g.M.Body.Ord.cmp) before node others won refl here k above (omega arith))

pub returns-clause-played : goal.returns-clause-played
returns-clause-played g c = λ k above within. c.loop-node.invariant.others k above within (omega arith)

pub loop-node-init : goal.loop-node-init
loop-node-init g c = record { within = c.requires.changed; others = c.requires.others; same = λ k high. refl }

pub play-requires : goal.play-requires
play-requires g c = omega (arith, c.loop-node.invariant.within, c.loop-node.auto.nodes, c.requires.size, c.loop-node-test.true)

pub returns-then-not-play-clause-same : goal.returns-then-not-play-clause-same
returns-then-not-play-clause-same g c = λ k high. ap (λ ns. node_at ns k) (c.play.ensures.same c.if-not-play.true) ∙ c.loop-node.invariant.same k high

pub loop-node-smaller : goal.loop-node-smaller
loop-node-smaller g c = omega (arith, c.loop-node-test.true)

pub returns-clause-same : goal.returns-clause-same
returns-clause-same g c = c.loop-node.invariant.same

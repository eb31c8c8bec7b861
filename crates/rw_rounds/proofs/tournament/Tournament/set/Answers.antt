use Rattle.std.proofs.Common.{◌≡◌, ◌<◌, ◌≤◌, ◌+◌, ◌*◌, ◌++◌, ℕ, List, length, take, drop, sym, ap, ◌∙◌, subst, arith}
use Rattle.std.specs.Prelude.{slice_set}
use Rattle.std.proofs.lemmas.List.{length-set, set_past, take-append-le, take_all}
use Rattle.rw_vt.specs.Order.{event_cmp}
use Rattle.rw_rounds.specs.Tournament.{node_at, IsPlayed, IsTournament, leaves}
use Rattle.rw_rounds.proofs.Winning.{length-leaves, written, written_others, changed, changed_leaves}
use Rattle.rw_rounds.proofs.tournament.Tournament.set.Goals as goal

-- what is written through a slice of a whole list is the whole list
whole : {A : Type 0} (n : ℕ) (new old : List A) → length new ≡ length old → length old ≡ n → take n (new ++ drop (length new) old) ≡ new
whole n new old same is = take-append-le n new (drop (length new) old) (omega arith) ∙ take_all n new (omega arith)

pub invariant_of-self : goal.invariant_of-self
invariant_of-self g c =
    let x = c.self.inside in
    let within : c.args.place < x.places = omega arith in
    let is : c.deref_mut.result.now ≡ written x.places x.nodes.items c.args.place c.args.event = c.deref_mut.ensures.value ∙ ap (slice_set x.nodes.items (x.places + c.args.place)) c.entry_of.ensures in
    let new = c.replay.new.nodes in
    let long : length new ≡ length (written x.places x.nodes.items c.args.place c.args.event) = c.replay.auto.nodes ∙ ap length is in
    let played = subst (λ w. (k : ℕ) → 0 < k → 2 * k + 1 < length w → IsPlayed (event_cmp g.M.Body.Ord.cmp) new k) is c.replay.ensures.played in
    let same = subst (λ w. (k : ℕ) → length w ≤ 2 * k → node_at new k ≡ node_at w k) is c.replay.ensures.same in
    subst (IsTournament (event_cmp g.M.Body.Ord.cmp) x.places) (sym (whole x.nodes.len new (slice_set x.nodes.items (x.places + c.args.place) c.entry_of.result) (c.replay.auto.nodes ∙ ap length c.deref_mut.ensures.value) (length-set x.nodes.items (x.places + c.args.place) c.entry_of.result ∙ omega (arith, x.nodes.ok.0))))
    (changed x.places x.nodes.items c.self.invariant c.args.place within c.args.event new long played same)

pub returns : goal.returns
returns g c =
    let x = c.self.inside in
    let within : c.args.place < x.places = omega arith in
    let is : c.deref_mut.result.now ≡ written x.places x.nodes.items c.args.place c.args.event = c.deref_mut.ensures.value ∙ ap (slice_set x.nodes.items (x.places + c.args.place)) c.entry_of.ensures in
    let new = c.replay.new.nodes in
    let long : length new ≡ length (written x.places x.nodes.items c.args.place c.args.event) = c.replay.auto.nodes ∙ ap length is in
    let played = subst (λ w. (k : ℕ) → 0 < k → 2 * k + 1 < length w → IsPlayed (event_cmp g.M.Body.Ord.cmp) new k) is c.replay.ensures.played in
    let same = subst (λ w. (k : ℕ) → length w ≤ 2 * k → node_at new k ≡ node_at w k) is c.replay.ensures.same in
    ap (leaves x.places) (whole x.nodes.len new (slice_set x.nodes.items (x.places + c.args.place) c.entry_of.result) (c.replay.auto.nodes ∙ ap length c.deref_mut.ensures.value) (length-set x.nodes.items (x.places + c.args.place) c.entry_of.result ∙ omega (arith, x.nodes.ok.0)))
    ∙ changed_leaves x.places x.nodes.items c.self.invariant c.args.place within c.args.event new long played same
    ∙ ap (λ ls. slice_set ls c.args.place c.args.event) c.self.view_is

-- past the last place nothing is put
pub returns-then-self-place : goal.returns-then-self-place
returns-then-self-place g c =
    let x = c.self.inside in
    sym (set_past c.args.self.now c.args.place c.args.event (omega (arith, ap length c.self.view_is, length-leaves x.places x.nodes.items c.self.invariant, c.if-self-place.true)))

pub index_mut-requires : goal.index_mut-requires
index_mut-requires g c = omega (arith, c.self.invariant.size, c.self.inside.nodes.ok.0, c.if-self-place.false)

pub replay-requires-clause-size : goal.replay-requires-clause-size
replay-requires-clause-size g c =
    let x = c.self.inside in
    omega (arith, ap length c.deref_mut.ensures.value, length-set x.nodes.items (x.places + c.args.place) c.entry_of.result, c.self.invariant.size)

pub replay-requires-clause-changed : goal.replay-requires-clause-changed
replay-requires-clause-changed g c =
    let x = c.self.inside in
    omega (arith, ap length c.deref_mut.ensures.value, length-set x.nodes.items (x.places + c.args.place) c.entry_of.result, c.self.invariant.size, c.if-self-place.false)

pub replay-requires-clause-others : goal.replay-requires-clause-others
replay-requires-clause-others g c =
    let x = c.self.inside in
    let is : c.deref_mut.result.now ≡ written x.places x.nodes.items c.args.place c.args.event = c.deref_mut.ensures.value ∙ ap (slice_set x.nodes.items (x.places + c.args.place)) c.entry_of.ensures in
    λ k above low apart.
    subst (λ ns. IsPlayed (event_cmp g.M.Body.Ord.cmp) ns k) (sym is)
    (written_others x.places x.nodes.items c.self.invariant c.args.place c.if-self-place.false c.args.event k above (omega (arith, low, ap length is)) apart)

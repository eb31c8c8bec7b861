use Rattle.std.proofs.Common.{◌≡◌, ◌+◌, [], ◌∷◌, ◌++◌, length, map, replicate, refl, sym, ap, ◌∙◌, arith}
use Rattle.std.proofs.lemmas.List.{length-map, map_push, replicate_more}
use Rattle.std.proofs.lemmas.List.Elements.{All-same, All-push}
use Rattle.rw_pool.proofs.Lists.{all_walked, one_done}
use Rattle.rw_windows.specs.Beginning.{HasNotBegun}
use Rattle.rw_windows.proofs.Lists.{numbered_more}
use Rattle.rw_windows.proofs.beginning.make_shares.Goals as goal

pub loop-number-init : goal.loop-number-init
loop-number-init g c =
    let none : c.in_ok-shares.shares.items ≡ [] = c.in_ok-shares.ensures.items in
    record {
      shares_left = omega (arith, c.requires.shares);
      inboxes_left = omega (arith, c.requires.inboxes);
      ports_left = omega (arith, c.requires.ports);
      parkers_left = omega (arith, c.requires.parkers);
      capacity = c.in_ok-shares.ensures.exact;
      count = c.in_ok-shares.ensures.len;
      numbers = λ i d below. absurd (omega arith);
      states = ap (λ ws. map (λ w. w.states) ws ++ map (λ h. h.items) c.args.parts.shares.items) none;
      given = ap (λ ws. map (λ w. w.given) ws ++ map (λ b. b.items) c.args.parts.inboxes.items) none;
      ports = ap (λ ws. map (λ w. w.port) ws ++ c.args.parts.ports.items) none;
      starts = ap (map (λ w. w.starts)) none;
      new = All-same (HasNotBegun c.args.windows c.args.bound) _ _ none (λ i d within. absurd (omega arith));
    }

pub next_share-requires-clause-shares : goal.next_share-requires-clause-shares
next_share-requires-clause-shares g c = λ empty. omega (arith, ap length empty, c.loop-number.invariant.shares_left, c.loop-number-test.true)

pub next_share-requires-clause-inboxes : goal.next_share-requires-clause-inboxes
next_share-requires-clause-inboxes g c = λ empty. omega (arith, ap length empty, c.loop-number.invariant.inboxes_left, c.loop-number-test.true)

pub next_share-requires-clause-ports : goal.next_share-requires-clause-ports
next_share-requires-clause-ports g c = λ empty. omega (arith, ap length empty, c.loop-number.invariant.ports_left, c.loop-number-test.true)

pub next_share-requires-clause-parkers : goal.next_share-requires-clause-parkers
next_share-requires-clause-parkers g c = λ empty. omega (arith, ap length empty, c.loop-number.invariant.parkers_left, c.loop-number-test.true)

pub push_reserved-requires : goal.push_reserved-requires
push_reserved-requires g c = omega (arith, c.loop-number.invariant.capacity, c.loop-number.invariant.count, c.loop-number-test.true)

pub loop-number-preserved : goal.loop-number-preserved
loop-number-preserved g c =
    let known = c.loop-number.invariant in
    let ws = c.loop-number.shares.items in
    let ws' = c.push_reserved.new.self.items in
    let before = c.loop-number.parts in
    let after = c.next_share.new.parts in
    let w = c.in_ok-share.share in
    let is = c.in_ok-share.ensures in
    let more : ws' ≡ ws ++ w ∷ [] = c.push_reserved.ensures.items in
    let shares : length before.shares.items ≡ length after.shares.items + 1 = omega (arith, length-map before.shares.items (λ h. h.items), length-map after.shares.items (λ h. h.items), ap length is.states) in
    let inboxes : length before.inboxes.items ≡ length after.inboxes.items + 1 = omega (arith, length-map before.inboxes.items (λ b. b.items), length-map after.inboxes.items (λ b. b.items), ap length is.given) in
    let starts = c.args.starts.now.value.items in
    record {
      shares_left = omega (arith, shares, known.shares_left);
      inboxes_left = omega (arith, inboxes, known.inboxes_left);
      ports_left = omega (arith, ap length is.port, known.ports_left);
      parkers_left = omega (arith, is.parkers, known.parkers_left);
      capacity = c.push_reserved.ensures.capacity ∙ known.capacity;
      count = omega (arith, c.push_reserved.ensures.len, known.count);
      numbers = numbered_more (λ v. v.number) c.loop-number.number ws ws' w (sym c.loop-number.shares.ok.0 ∙ known.count) known.numbers is.number more;
      states = one_done (λ w. w.states) ws ws' (map (λ h. h.items) before.shares.items) (map (λ h. h.items) after.shares.items) (map (λ h. h.items) c.args.parts.shares.items) w.states w known.states is.states refl more;
      given = one_done (λ w. w.given) ws ws' (map (λ b. b.items) before.inboxes.items) (map (λ b. b.items) after.inboxes.items) (map (λ b. b.items) c.args.parts.inboxes.items) w.given w known.given is.given refl more;
      ports = one_done (λ w. w.port) ws ws' before.ports.items after.ports.items c.args.parts.ports.items w.port w known.ports is.port refl more;
      starts = ap (map (λ w. w.starts)) more
          ∙ map_push (λ w. w.starts) ws w
          ∙ ap (λ l. l ++ w.starts ∷ []) known.starts
          ∙ ap (λ s. replicate c.loop-number.number starts ++ s ∷ []) is.starts
          ∙ replicate_more c.loop-number.number starts;
      new = All-same (HasNotBegun c.args.windows c.args.bound) ws' (ws ++ w ∷ []) more (All-push (HasNotBegun c.args.windows c.args.bound) ws w known.new is.new);
    }

pub returns-clause-count : goal.returns-clause-count
returns-clause-count g c = omega (arith, c.loop-number.shares.ok.0, c.loop-number.invariant.count, c.loop-number-test.false, c.loop-number.auto.number-end)

pub returns-clause-numbers : goal.returns-clause-numbers
returns-clause-numbers g c i d below = c.loop-number.invariant.numbers i d (omega (arith, c.loop-number-test.false, below))

pub returns-clause-states : goal.returns-clause-states
returns-clause-states g c =
    let rest = c.loop-number.parts.shares.items in
    all_walked _ (map (λ h. h.items) rest) _ c.loop-number.invariant.states (length-map rest (λ h. h.items) ∙ omega (arith, c.loop-number.invariant.shares_left, c.loop-number-test.false))

pub returns-clause-given : goal.returns-clause-given
returns-clause-given g c =
    let rest = c.loop-number.parts.inboxes.items in
    all_walked _ (map (λ b. b.items) rest) _ c.loop-number.invariant.given (length-map rest (λ b. b.items) ∙ omega (arith, c.loop-number.invariant.inboxes_left, c.loop-number-test.false))

pub returns-clause-ports : goal.returns-clause-ports
returns-clause-ports g c = all_walked _ c.loop-number.parts.ports.items _ c.loop-number.invariant.ports (omega (arith, c.loop-number.invariant.ports_left, c.loop-number-test.false))

pub returns-clause-starts : goal.returns-clause-starts
returns-clause-starts g c =
    c.loop-number.invariant.starts
    ∙ ap (λ n. replicate n c.args.starts.now.value.items) (omega (arith, c.loop-number-test.false, c.loop-number.auto.number-end))

pub returns-clause-new : goal.returns-clause-new
returns-clause-new g c = c.loop-number.invariant.new

use Rattle.std.proofs.Common.{◌≡◌, ◌+◌, [], ◌∷◌, ◌++◌, length, map, refl, sym, ap, ◌∙◌, arith, Some}
use Rattle.std.specs.Prelude.{slice_get}
use Rattle.std.proofs.lemmas.List.{length-map, map_push}
use Rattle.std.proofs.lemmas.List.Elements.{All-same, All-push}
use Rattle.rw_pool.proofs.Lists.{one_done, joined_more, all_walked}
use Rattle.rw_rounds.specs.Rounds.{role}
use Rattle.rw_rounds.proofs.setting_up.make_workers.Goals as goal

pub loop-number-init : goal.loop-number-init
loop-number-init g c =
    let none : c.in_ok-workers.workers.items ≡ [] = c.in_ok-workers.ensures.items in
    record {
      shares_left = omega (arith, c.requires.shares);
      inboxes_left = omega (arith, c.requires.inboxes);
      ports_left = omega (arith, c.requires.ports);
      seats_left = omega (arith, c.requires.seats);
      capacity = c.in_ok-workers.ensures.exact;
      count = c.in_ok-workers.ensures.len;
      roles = λ i below. absurd (omega arith);
      processes = ap (λ ws. map (λ w. w.processes) ws ++ map (λ h. h.items) c.args.supply.shares.items) none;
      inboxes = ap (λ ws. map (λ w. w.inbox) ws ++ map (λ b. b.items) c.args.supply.inboxes.items) none;
      ports = ap (λ ws. map (λ w. w.port) ws ++ c.args.supply.ports.items) none;
      seats = ap (λ ws. map (λ w. w.seat) ws ++ c.args.supply.seats.items) none;
      none = All-same (λ w. (w.kept ≡ []) × (w.aside ≡ [])) _ _ none (λ i d within. absurd (omega arith));
    }

pub next_worker-requires-clause-shares : goal.next_worker-requires-clause-shares
next_worker-requires-clause-shares g c = λ empty. omega (arith, ap length empty, c.loop-number.invariant.shares_left, c.loop-number-test.true)

pub next_worker-requires-clause-inboxes : goal.next_worker-requires-clause-inboxes
next_worker-requires-clause-inboxes g c = λ empty. omega (arith, ap length empty, c.loop-number.invariant.inboxes_left, c.loop-number-test.true)

pub next_worker-requires-clause-ports : goal.next_worker-requires-clause-ports
next_worker-requires-clause-ports g c = λ empty. omega (arith, ap length empty, c.loop-number.invariant.ports_left, c.loop-number-test.true)

pub next_worker-requires-clause-seats : goal.next_worker-requires-clause-seats
next_worker-requires-clause-seats g c = λ empty. omega (arith, ap length empty, c.loop-number.invariant.seats_left, c.loop-number-test.true)

pub push_reserved-requires : goal.push_reserved-requires
push_reserved-requires g c = omega (arith, c.loop-number.invariant.capacity, c.loop-number.invariant.count, c.loop-number-test.true)

pub loop-number-preserved : goal.loop-number-preserved
loop-number-preserved g c =
    let known = c.loop-number.invariant in
    let ws = c.loop-number.workers.items in
    let ws' = c.push_reserved.new.self.items in
    let before = c.loop-number.supply in
    let after = c.next_worker.new.supply in
    let w = c.next_worker.result in
    let is = c.next_worker.ensures in
    let more : ws' ≡ ws ++ w ∷ [] = c.push_reserved.ensures.items in
    let shares : length before.shares.items ≡ length after.shares.items + 1 = omega (arith, length-map before.shares.items (λ h. h.items), length-map after.shares.items (λ h. h.items), ap length is.processes) in
    let inboxes : length before.inboxes.items ≡ length after.inboxes.items + 1 = omega (arith, length-map before.inboxes.items (λ b. b.items), length-map after.inboxes.items (λ b. b.items), ap length is.inbox) in
    record {
      shares_left = omega (arith, shares, known.shares_left);
      inboxes_left = omega (arith, inboxes, known.inboxes_left);
      ports_left = omega (arith, ap length is.port, known.ports_left);
      seats_left = omega (arith, ap length is.seat, known.seats_left);
      capacity = c.push_reserved.ensures.capacity ∙ known.capacity;
      count = omega (arith, c.push_reserved.ensures.len, known.count);
      roles = λ i below.
          ap (λ xs. slice_get (map (λ w. w.role) xs) i) more
          ∙ ap (λ xs. slice_get xs i) (map_push (λ w. w.role) ws w)
          ∙ joined_more (λ k. Some (role c.args.plan.now c.args.collected k)) c.loop-number.number (map (λ w. w.role) ws) w.role (length-map ws (λ w. w.role) ∙ (sym c.loop-number.workers.ok.0 ∙ known.count)) (sym (ap (λ r. Some r) is.role)) known.roles i below;
      processes = one_done (λ w. w.processes) ws ws' _ _ _ w.processes w known.processes is.processes refl more;
      inboxes = one_done (λ w. w.inbox) ws ws' _ _ _ w.inbox w known.inboxes is.inbox refl more;
      ports = one_done (λ w. w.port) ws ws' _ _ _ w.port w known.ports is.port refl more;
      seats = one_done (λ w. w.seat) ws ws' _ _ _ w.seat w known.seats is.seat refl more;
      none = All-same (λ w. (w.kept ≡ []) × (w.aside ≡ [])) _ _ more (All-push (λ w. (w.kept ≡ []) × (w.aside ≡ [])) ws w known.none is.none);
    }

pub returns-clause-count : goal.returns-clause-count
returns-clause-count g c = omega (arith, c.loop-number.workers.ok.0, c.loop-number.invariant.count, c.loop-number-test.false, c.loop-number.auto.number-end)

pub returns-clause-roles : goal.returns-clause-roles
returns-clause-roles g c i below = c.loop-number.invariant.roles i (omega (arith, c.loop-number-test.false, below))

pub returns-clause-processes : goal.returns-clause-processes
returns-clause-processes g c =
    let rest = c.loop-number.supply.shares.items in
    all_walked _ (map (λ h. h.items) rest) _ c.loop-number.invariant.processes (length-map rest (λ h. h.items) ∙ omega (arith, c.loop-number.invariant.shares_left, c.loop-number-test.false))

pub returns-clause-inboxes : goal.returns-clause-inboxes
returns-clause-inboxes g c =
    let rest = c.loop-number.supply.inboxes.items in
    all_walked _ (map (λ b. b.items) rest) _ c.loop-number.invariant.inboxes (length-map rest (λ b. b.items) ∙ omega (arith, c.loop-number.invariant.inboxes_left, c.loop-number-test.false))

pub returns-clause-ports : goal.returns-clause-ports
returns-clause-ports g c = all_walked _ c.loop-number.supply.ports.items _ c.loop-number.invariant.ports (omega (arith, c.loop-number.invariant.ports_left, c.loop-number-test.false))

pub returns-clause-seats : goal.returns-clause-seats
returns-clause-seats g c = all_walked _ c.loop-number.supply.seats.items _ c.loop-number.invariant.seats (omega (arith, c.loop-number.invariant.seats_left, c.loop-number-test.false))

pub returns-clause-none : goal.returns-clause-none
returns-clause-none g c = c.loop-number.invariant.none

use Rattle.std.proofs.Common.{◌≡◌, [], ◌∷◌, ◌++◌, map, sym, ap, ◌∙◌}
use Rattle.std.proofs.lemmas.List.{length-map}
use Rattle.rw_pool.proofs.Lists.{one_done, all_walked}
use Rattle.rw_rounds.proofs.Walking.{none_done, one_more, piece_done, room_for_one}
use Rattle.rw_rounds.proofs.gathering.take_apart.Goals as goal

pub loop-worker-preserved : goal.loop-worker-preserved
loop-worker-preserved g c =
    let known = c.loop-worker.invariant in
    let l = c.loop-worker.parts in
    let w = c.in-Some.worker in
    let rest' = c.next.new.self.rest.items in
    let r : c.loop-worker.worker-iterator.rest.items ≡ w ∷ rest' = c.in-Some.ensures.steps.0 in
    let its = c.into_inner-processes.ensures in
    record {
      shares_room = (c.push_back_reserved.ensures.capacity ∙ known.shares_room.0, one_more _ r known.shares_room.1 c.push_back_reserved.ensures.len);
      kept_room = (c.push_reserved.ensures.capacity ∙ known.kept_room.0, one_more _ r known.kept_room.1 c.push_reserved.ensures.len);
      aside_room = (c.push_reserved-in-loop-worker.ensures.capacity ∙ known.aside_room.0, one_more _ r known.aside_room.1 c.push_reserved-in-loop-worker.ensures.len);
      ports_room = (c.push_reserved-in-loop-worker-2.ensures.capacity ∙ known.ports_room.0, one_more _ r known.ports_room.1 c.push_reserved-in-loop-worker-2.ensures.len);
      seats_room = (c.push_reserved-in-loop-worker-3.ensures.capacity ∙ known.seats_room.0, one_more _ r known.seats_room.1 c.push_reserved-in-loop-worker-3.ensures.len);
      shares = one_done (λ h. h.items) l.shares.items _ _ (map (λ w. w.processes) rest') _ w.processes c.into_inner-processes.result.processes known.shares (ap (map (λ w. w.processes)) r) its.processes c.push_back_reserved.ensures.items;
      kept = one_done (λ k. k.items) l.kept.items _ _ (map (λ w. w.kept) rest') _ w.kept c.into_inner-processes.result.kept known.kept (ap (map (λ w. w.kept)) r) its.kept c.push_reserved.ensures.items;
      aside = one_done (λ a. a.items) l.aside.items _ _ (map (λ w. w.aside) rest') _ w.aside c.into_inner-processes.result.aside known.aside (ap (map (λ w. w.aside)) r) its.aside c.push_reserved-in-loop-worker.ensures.items;
      ports = piece_done l.ports.items _ _ (map (λ w. w.port) rest') _ (w.port ∷ []) known.ports (ap (map (λ w. w.port)) r) (c.push_reserved-in-loop-worker-2.ensures.items ∙ ap (λ p. l.ports.items ++ p ∷ []) its.port);
      seats = piece_done l.seats.items _ _ (map (λ w. w.seat) rest') _ (w.seat ∷ []) known.seats (ap (map (λ w. w.seat)) r) (c.push_reserved-in-loop-worker-3.ensures.items ∙ ap (λ s. l.seats.items ++ s ∷ []) its.seat);
    }

pub returns-clause-shares : goal.returns-clause-shares
returns-clause-shares g c =
    let rest = c.loop-worker.worker-iterator.rest in
    all_walked _ (map (λ w. w.processes) rest.items) _ c.loop-worker.invariant.shares (length-map rest.items (λ w. w.processes) ∙ (sym rest.ok.0 ∙ c.in-None.ensures.steps.0))

pub returns-clause-kept : goal.returns-clause-kept
returns-clause-kept g c =
    let rest = c.loop-worker.worker-iterator.rest in
    all_walked _ (map (λ w. w.kept) rest.items) _ c.loop-worker.invariant.kept (length-map rest.items (λ w. w.kept) ∙ (sym rest.ok.0 ∙ c.in-None.ensures.steps.0))

pub returns-clause-aside : goal.returns-clause-aside
returns-clause-aside g c =
    let rest = c.loop-worker.worker-iterator.rest in
    all_walked _ (map (λ w. w.aside) rest.items) _ c.loop-worker.invariant.aside (length-map rest.items (λ w. w.aside) ∙ (sym rest.ok.0 ∙ c.in-None.ensures.steps.0))

pub returns-clause-ports : goal.returns-clause-ports
returns-clause-ports g c =
    let rest = c.loop-worker.worker-iterator.rest in
    all_walked _ (map (λ w. w.port) rest.items) _ c.loop-worker.invariant.ports (length-map rest.items (λ w. w.port) ∙ (sym rest.ok.0 ∙ c.in-None.ensures.steps.0))

pub returns-clause-seats : goal.returns-clause-seats
returns-clause-seats g c =
    let rest = c.loop-worker.worker-iterator.rest in
    all_walked _ (map (λ w. w.seat) rest.items) _ c.loop-worker.invariant.seats (length-map rest.items (λ w. w.seat) ∙ (sym rest.ok.0 ∙ c.in-None.ensures.steps.0))

pub loop-worker-init : goal.loop-worker-init
loop-worker-init g c =
    let begin = c.into_iter-worker-iterator.ensures.into_iter_gives.0 in
    let rest = c.into_iter-worker-iterator.result.rest.items in
    let its = c.in_ok-parts.parts in
    let made = c.in_ok-parts.ensures in
    let all = c.args.workers.ok.0 in
    record {
      shares_room = (made.room.0 ∙ c.len.ensures, none_done its.shares.ok.0 made.none.0 begin all);
      kept_room = (made.room.1 ∙ c.len.ensures, none_done its.kept.ok.0 made.none.1 begin all);
      aside_room = (made.room.2 ∙ c.len.ensures, none_done its.aside.ok.0 made.none.2 begin all);
      ports_room = (made.room.3 ∙ c.len.ensures, none_done its.ports.ok.0 made.none.3 begin all);
      seats_room = (made.room.4 ∙ c.len.ensures, none_done its.seats.ok.0 made.none.4 begin all);
      shares = ap (λ z. map (λ h. h.items) z ++ map (λ w. w.processes) rest) made.none.0 ∙ ap (map (λ w. w.processes)) begin;
      kept = ap (λ z. map (λ k. k.items) z ++ map (λ w. w.kept) rest) made.none.1 ∙ ap (map (λ w. w.kept)) begin;
      aside = ap (λ z. map (λ a. a.items) z ++ map (λ w. w.aside) rest) made.none.2 ∙ ap (map (λ w. w.aside)) begin;
      ports = ap (λ z. z ++ map (λ w. w.port) rest) made.none.3 ∙ ap (map (λ w. w.port)) begin;
      seats = ap (λ z. z ++ map (λ w. w.seat) rest) made.none.4 ∙ ap (map (λ w. w.seat)) begin;
    }

pub push_back_reserved-requires : goal.push_back_reserved-requires
push_back_reserved-requires g c = room_for_one c.in-Some.ensures.steps.0 c.loop-worker.invariant.shares_room.1 c.loop-worker.invariant.shares_room.0

pub push_reserved-requires : goal.push_reserved-requires
push_reserved-requires g c = room_for_one c.in-Some.ensures.steps.0 c.loop-worker.invariant.kept_room.1 c.loop-worker.invariant.kept_room.0

pub push_reserved-requires-in-loop-worker : goal.push_reserved-requires-in-loop-worker
push_reserved-requires-in-loop-worker g c = room_for_one c.in-Some.ensures.steps.0 c.loop-worker.invariant.aside_room.1 c.loop-worker.invariant.aside_room.0

pub push_reserved-requires-in-loop-worker-2 : goal.push_reserved-requires-in-loop-worker-2
push_reserved-requires-in-loop-worker-2 g c = room_for_one c.in-Some.ensures.steps.0 c.loop-worker.invariant.ports_room.1 c.loop-worker.invariant.ports_room.0

pub push_reserved-requires-in-loop-worker-3 : goal.push_reserved-requires-in-loop-worker-3
push_reserved-requires-in-loop-worker-3 g c = room_for_one c.in-Some.ensures.steps.0 c.loop-worker.invariant.seats_room.1 c.loop-worker.invariant.seats_room.0

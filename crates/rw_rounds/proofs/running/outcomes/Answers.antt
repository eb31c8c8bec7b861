use Rattle.std.proofs.Common.{◌≡◌, [], ◌∷◌, ◌++◌, length, map, sym, ap, ◌∙◌, arith}
use Rattle.std.proofs.lemmas.List.{length-map}
use Rattle.rw_pool.proofs.Lists.{one_done, all_walked}
use Rattle.rw_rounds.proofs.Walking.{one_more, piece_done, room_for_one}
use Rattle.rw_rounds.proofs.running.outcomes.Goals as goal

pub loop-process-preserved : goal.loop-process-preserved
loop-process-preserved g c =
    let known = c.loop-process.invariant in
    let x = c.in-Some.process in
    let rest' = c.next.new.self.rest.items in
    let r : c.loop-process.process-iterator.rest.items ≡ x ∷ rest' = c.in-Some.ensures.steps.0 in
    let its = c.into_outcome-journal.ensures in
    let first = c.push_reserved.ensures in
    let second = c.push_reserved-in-loop-process.ensures in
    let states = c.loop-process.states.items in
    record {
      room = (first.capacity ∙ known.room.0, second.capacity ∙ known.room.1);
      many = (one_more _ r known.many.0 first.len, one_more _ r known.many.1 second.len);
      journals = one_done (λ j. j.items) c.loop-process.journals.items _ _ (map (λ x. x.process.committed) rest') _ x.process.committed c.into_outcome-journal.result.0 known.journals (ap (map (λ x. x.process.committed)) r) its.journal first.items;
      states = piece_done states _ _ (map (λ x. x.process.state) rest') _ (x.process.state ∷ []) known.states (ap (map (λ x. x.process.state)) r) (second.items ∙ ap (λ s. states ++ s ∷ []) its.state);
    }

pub returns : goal.returns
returns g c =
    let known = c.loop-process.invariant in
    let rest = c.loop-process.process-iterator.rest in
    let zero : length rest.items ≡ 0 = sym rest.ok.0 ∙ c.in-None.ensures.steps.0 in (
      all_walked _ (map (λ x. x.process.committed) rest.items) _ known.journals (length-map rest.items (λ x. x.process.committed) ∙ zero),
      all_walked _ (map (λ x. x.process.state) rest.items) _ known.states (length-map rest.items (λ x. x.process.state) ∙ zero),
    )

pub loop-process-init : goal.loop-process-init
loop-process-init g c =
    let begin = c.into_iter-process-iterator.ensures.into_iter_gives.0 in
    let rest = c.into_iter-process-iterator.result.rest.items in
    let journals = c.in_ok-journals.ensures in
    let states = c.in_ok-states.ensures in
    let all = c.args.processes.ok.0 in
    record {
      room = (journals.exact, states.exact);
      many = (omega (arith, journals.len, c.len-count.ensures, ap length begin, all), omega (arith, states.len, c.len-count.ensures, ap length begin, all));
      journals = ap (λ z. map (λ j. j.items) z ++ map (λ x. x.process.committed) rest) journals.items ∙ ap (map (λ x. x.process.committed)) begin;
      states = ap (λ z. z ++ map (λ x. x.process.state) rest) states.items ∙ ap (map (λ x. x.process.state)) begin;
    }

pub push_reserved-requires : goal.push_reserved-requires
push_reserved-requires g c = room_for_one c.in-Some.ensures.steps.0 c.loop-process.invariant.many.0 c.loop-process.invariant.room.0

pub push_reserved-requires-in-loop-process : goal.push_reserved-requires-in-loop-process
push_reserved-requires-in-loop-process g c = room_for_one c.in-Some.ensures.steps.0 c.loop-process.invariant.many.1 c.loop-process.invariant.room.1

use Rattle.std.proofs.Common.{◌++◌, ◌∷◌, [], map, replicate, ap, ◌∙◌, arith}
use Rattle.std.proofs.lemmas.List.{map_push, replicate_more}
use Rattle.rw_windows.proofs.beginning.lists_with_room.Goals as goal

pub loop-init : goal.loop-init
loop-init g c = record {
  room = c.in_ok-lists.ensures.exact;
  count = c.in_ok-lists.ensures.len;
  empty = ap (map (λ j. j.items)) c.in_ok-lists.ensures.items;
}

pub push_reserved-requires : goal.push_reserved-requires
push_reserved-requires g c = omega (arith, c.loop.invariant.room, c.loop.invariant.count, c.loop-test.true)

pub loop-preserved : goal.loop-preserved
loop-preserved g c =
    let known = c.loop.invariant in
    let list = c.in_ok-with_capacity in
    record {
      room = c.push_reserved.ensures.capacity ∙ known.room;
      count = omega (arith, c.push_reserved.ensures.len, known.count);
      empty = ap (map (λ j. j.items)) c.push_reserved.ensures.items
          ∙ map_push (λ j. j.items) c.loop.lists.items list.field-0
          ∙ ap (λ l. l ++ list.field-0.items ∷ []) known.empty
          ∙ ap (λ v. replicate c.loop.counter [] ++ v ∷ []) list.ensures.items
          ∙ replicate_more c.loop.counter [];
    }

pub returns : goal.returns
returns g c = c.loop.invariant.empty ∙ ap (λ n. replicate n []) (omega (arith, c.loop-test.false))

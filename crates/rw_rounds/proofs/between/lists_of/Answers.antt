use Rattle.std.proofs.Common.{◌++◌, map, sym, ap, ◌∙◌}
use Rattle.std.proofs.lemmas.List.{length-map}
use Rattle.rw_pool.proofs.Lists.{one_done, all_walked}
use Rattle.rw_rounds.proofs.Walking.{none_done, one_more, room_for_one}
use Rattle.rw_rounds.proofs.between.lists_of.Goals as goal

pub loop-share-init : goal.loop-share-init
loop-share-init g c =
    let begin = ap (λ v. v.items) c.into_iter-share-iterator.ensures.into_iter_gives.0 in
    let rest = c.into_iter-share-iterator.result.rest.items in
    let made = c.in_ok-lists.ensures in
    record {
      room = (made.exact ∙ c.len.ensures, none_done c.in_ok-lists.lists.ok.0 made.items begin c.args.shares.ok.0);
      same = ap (λ z. map (λ h. h.items) z ++ map (λ v. v.items) rest) made.items ∙ ap (map (λ v. v.items)) begin;
    }

pub loop-share-preserved : goal.loop-share-preserved
loop-share-preserved g c =
    let known = c.loop-share.invariant in
    let rest' = c.next.new.self.rest.items in
    let r = c.in-Some.ensures.steps.0 in
    record {
      room = (c.push_back_reserved.ensures.capacity ∙ known.room.0, one_more _ r known.room.1 c.push_back_reserved.ensures.len);
      same = one_done (λ l. l.items) c.loop-share.lists.items _ _ (map (λ v. v.items) rest') _ c.in-Some.share.items c.from.result known.same (ap (map (λ v. v.items)) r) (c.from.ensures.0 ∙ c.into_list.ensures) c.push_back_reserved.ensures.items;
    }

pub push_back_reserved-requires : goal.push_back_reserved-requires
push_back_reserved-requires g c = room_for_one c.in-Some.ensures.steps.0 c.loop-share.invariant.room.1 c.loop-share.invariant.room.0

pub returns : goal.returns
returns g c =
    let rest = c.loop-share.share-iterator.rest in
    all_walked _ (map (λ v. v.items) rest.items) _ c.loop-share.invariant.same (length-map rest.items (λ v. v.items) ∙ (sym rest.ok.0 ∙ c.in-None.ensures.steps.0))

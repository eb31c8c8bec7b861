use Rattle.std.proofs.Common.{◌≡◌, ◌+◌, ◌∷◌, [], length, map, refl, sym, ap, ◌∙◌, subst, arith, length-append}
use Rattle.std.specs.Prelude.{slice_get}
use Rattle.std.proofs.lemmas.List.{length-map, map_push}
use Rattle.rw_pool.specs.Shares.{of_shares}
use Rattle.rw_pool.proofs.Lists.{joined_more}
use Rattle.rw_pool.proofs.Dealing.{GoRound, round_start, round_next, round_more, round_none}
use Rattle.rw_pool.proofs.shares.join.Goals as goal

pub loop-item-init : goal.loop-item-init
loop-item-init g c = record {
  long = refl;
  many = omega (arith, ap length c.in_ok-list.ensures.items);
  round = round_start (length c.args.shares.items) (map (λ h. h.items) c.args.shares.items);
  joined = λ q below. absurd (omega arith);
}

pub first_of-requires : goal.first_of-requires
first_of-requires g c =
    let known = c.loop-item.invariant in
    let n = length c.args.shares.items in
    let k = c.loop-item._item in
    let shares = c.loop-item.shares.items in
    let rest = map (λ h. h.items) c.first_of-share.new.items.items in
    let first = ap (map (λ h. h.items)) c.first_of-share.ensures.first in
    record {
      some = λ empty. c.requires.complete k c.loop-item-test.true
          (round_none n (of_shares n (map (λ h. h.items) c.args.shares.items)) k (map (λ h. h.items) shares) rest (length-map shares (λ h. h.items) ∙ known.long) (first ∙ ap (λ h. h ∷ rest) empty) known.round);
    }

pub loop-item-preserved : goal.loop-item-preserved
loop-item-preserved g c =
    let known = c.loop-item.invariant in
    let n = length c.args.shares.items in
    let k = c.loop-item._item in
    let shares = c.loop-item.shares.items in
    let F = of_shares n (map (λ h. h.items) c.args.shares.items) in
    let first : shares ≡ c.first_of-share.result ∷ c.first_of-share.new.items.items = c.first_of-share.ensures.first in
    let next : c.first_of-share.result.items ≡ c.first_of.result ∷ c.first_of.new.items.items = c.first_of.ensures.first in
    let boxes = map (λ h. h.items) shares in
    let rest = map (λ h. h.items) c.first_of-share.new.items.items in
    let long : length boxes ≡ n = length-map shares (λ h. h.items) ∙ known.long in
    let top = ap (map (λ h. h.items)) first in
    let more = c.in_ok-push_back.ensures.items in
    let gave = round_next n F k boxes rest c.first_of-share.result.items c.first_of.new.items.items c.first_of.result long top next known.round in
    record {
      long = omega (arith, ap length more, ap length first, known.long, length-append c.first_of-share.new.items.items (c.first_of.new.items ∷ []));
      many = omega (arith, ap length c.in_ok-push.ensures.items, length-append c.loop-item.list.items (c.first_of.result ∷ []), known.many);
      round = subst (GoRound n F (k + 1)) (sym (ap (map (λ h. h.items)) more ∙ map_push (λ h. h.items) c.first_of-share.new.items.items c.first_of.new.items))
          (round_more n F k boxes rest c.first_of-share.result.items c.first_of.new.items.items c.first_of.result long top next known.round);
      joined = λ q below. ap (λ xs. slice_get xs q) c.in_ok-push.ensures.items ∙ joined_more F k c.loop-item.list.items c.first_of.result known.many gave known.joined q below;
    }

pub returns-clause-each : goal.returns-clause-each
returns-clause-each g c q below = c.loop-item.invariant.joined q (omega (arith, c.loop-item-test.false, below))

use Rattle.std.proofs.Common.{◌++◌, IsPermutation, refl, subst}
use Rattle.std.proofs.lemmas.List.Sorted.{IsPermutation-append_left}
use Rattle.std.proofs.lemmas.Result.{on_ok_weaker}
use Rattle.rw_pending.proofs.Moving.{put_in_again}
use Rattle.rw_pending.proofs.Waiting.{around_filled}
use Rattle.rw_pending.proofs.pending.Pending.put_back.Goals as goal

pub returns-clause-added : goal.returns-clause-added
returns-clause-added g c =
    let at = c.self.inside in
    let later = c.put_apart.new.later in
    on_ok_weaker c.fill.result (λ filled. subst (λ w. IsPermutation (w.events ++ c.args.events.items) (at.initial ++ (c.fill.new.self ++ later))) c.self.view_is
    (put_in_again at.initial at.now at.later c.args.events.items c.in_ok-move_sent.ensures.moved c.sort_unstable.ensures.permutation c.deref.ensures.value refl c.in_ok-put_apart.ensures.put
    (IsPermutation-append_left later c.put_apart.new.start.items c.fill.new.self filled))) c.fill.ensures.filled

pub invariant_of-self : goal.invariant_of-self
invariant_of-self g c = c.move_sent.ensures.around c.self.inside.time c.self.inside.initial c.self.invariant

pub invariant_of-self-2 : goal.invariant_of-self-2
invariant_of-self-2 g c = around_filled c.self.inside.initial c.put_apart.new.start.items c.fill.new.self c.put_apart.new.later c.fill.result c.in_ok-put_apart.ensures.start c.put_apart.ensures.later c.fill.ensures.filled c.fill.ensures.none

pub put_apart-requires : goal.put_apart-requires
put_apart-requires g c = record { none = (c.clear.ensures.items, c.in_ok-move_sent.ensures.none.1) }

pub fill-requires : goal.fill-requires
fill-requires g c = c.in_ok-move_sent.ensures.none.0

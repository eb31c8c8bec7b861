use Rattle.std.proofs.Common.{◌++◌, ◌∙◌, [], All, IfSome, ap, append-nil, refl, subst, sym}
use Rattle.std.specs.Option.{option_to_list}
use Rattle.std.proofs.lemmas.Option.{IfSome_then}
use Rattle.rw_vt.specs.Order.{AtMost, event_cmp}
use Rattle.rw_vt.proofs.EventOrder.{events_total}
use Rattle.rw_pending.proofs.Queue.{alone_least}
use Rattle.rw_pending.proofs.Waiting.{below_first}
use Rattle.rw_pending.proofs.pending.take_lesser.Goals as goal

pub returns-else-is_initial_next-clause-least : goal.returns-else-is_initial_next-clause-least
returns-else-is_initial_next-clause-least g c =
    let o = events_total g.met.B.Ord.total in
    let sent = c.in-Some.sent in
    subst (λ n. IfSome n (λ e. All (AtMost (event_cmp g.B.Ord.cmp) e) c.args.initial.now × All (AtMost (event_cmp g.B.Ord.cmp) e) (option_to_list n))) (sym c.in-Some.is) (
      below_first o sent c.args.initial.now c.first.result c.first.ensures.first c.first.ensures.least (IfSome_then c.first.result c.is_initial_next.ensures.greater (λ i h. h c.if-is_initial_next.false)),
      alone_least o sent,
    )

pub returns-in_ok-put-clause-taken : goal.returns-in_ok-put-clause-taken
returns-in_ok-put-clause-taken g c = record {
  from_first = option_to_list c.pop.new.next;
  from_second = [];
  first = c.pop.ensures.taken;
  second = ap (λ n. option_to_list n) c.in-Some.is ∙ sym c.in_ok-put.ensures.put;
  both = append-nil (option_to_list c.pop.new.next);
}

pub returns-else-is_initial_next-clause-taken : goal.returns-else-is_initial_next-clause-taken
returns-else-is_initial_next-clause-taken g c =
    let sent = option_to_list c.args.next.now in
    record { from_first = []; from_second = sent; first = refl; second = sym (ap (λ l. sent ++ l) c.requires.none ∙ append-nil sent); both = refl }

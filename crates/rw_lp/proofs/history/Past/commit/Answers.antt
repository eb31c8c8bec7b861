use Rattle.std.proofs.Common.{◌≡◌, ◌+◌, ◌-◌, ◌≤◌, arith, ◌++◌, length, sym, ap, ◌∙◌, subst, take, drop}
use Rattle.std.specs.Prelude.{nat_le, nat_lt, filter}
use Rattle.std.specs.List.{position_or_len}
use Rattle.std.specs.List.Sorted.{IsPartitionedBy}
use Rattle.std.proofs.lemmas.List.{take-append-drop, drop-drop}
use Rattle.rw_vt.specs.declared.event.Event.{Event}
use Rattle.rw_vt.specs.Order.{event_cmp}
use Rattle.rw_vt.proofs.EventOrder.{events_exact, time_at_most}
use Rattle.rw_vt.proofs.Sorting.{IsExactOrder}
use Rattle.rw_vt.proofs.Bags.{IsAscending-back}
use Rattle.rw_lp.proofs.Chains.{past_same}
use Rattle.rw_lp.proofs.Orders.{cut_at}
use Rattle.rw_lp.specs.Cut.{seen_of}
use Rattle.rw_lp.proofs.Pasts.{as_many, past_commit, slice_from, take_further}
use Rattle.rw_lp.proofs.Searching.{early_first}
use Rattle.rw_lp.proofs.history.Past.commit.Goals as goal

pub count_before-count-requires : goal.count_before-count-requires
count_before-count-requires g c =
    let o : IsExactOrder (event_cmp g.M.Body.Ord.cmp) = events_exact (record { total = g.met.M.Body.Ord.total; same = g.met.M.Model.same }) in
    let p = c.args.self.now in
    let d = c.deref.result.now in
    let behind : take (length d - p.cut) (drop p.cut d) ≡ drop p.cut p.done.items = slice_from p.cut d ∙ ap (drop p.cut) c.deref.ensures.value in
    record { order = subst (IsPartitionedBy (λ (e : Event g.row.M-Body.Denot). nat_lt e.time c.args.time)) (sym behind) (early_first o (time_at_most g.M.Body.Ord.cmp) c.args.time (drop p.cut p.done.items) (IsAscending-back o (take p.cut p.done.items) (drop p.cut p.done.items) c.requires.kept.linked.order)) }

pub drop_front-requires : goal.drop_front-requires
drop_front-requires g c =
    let o : IsExactOrder (event_cmp g.M.Body.Ord.cmp) = events_exact (record { total = g.met.M.Body.Ord.total; same = g.met.M.Model.same }) in
    let p = c.args.self.now in
    let d = c.deref.result.now in
    let behind : take (length d - p.cut) (drop p.cut d) ≡ drop p.cut p.done.items = slice_from p.cut d ∙ ap (drop p.cut) c.deref.ensures.value in
    let most : c.count_before-count.result ≤ length (drop p.cut p.done.items) = subst (λ l. c.count_before-count.result ≤ length l) behind c.count_before-count.ensures.within in
    let many = as_many g.M.Model o p c.requires.kept in
    omega (arith, many, most)

pub returns-clause-kept : goal.returns-clause-kept
returns-clause-kept g c =
    let o : IsExactOrder (event_cmp g.M.Body.Ord.cmp) = events_exact (record { total = g.met.M.Body.Ord.total; same = g.met.M.Model.same }) in
    let p = c.args.self.now in
    let d = c.deref.result.now in
    let behind : take (length d - p.cut) (drop p.cut d) ≡ drop p.cut p.done.items = slice_from p.cut d ∙ ap (drop p.cut) c.deref.ensures.value in
    let most : c.count_before-count.result ≤ length (drop p.cut p.done.items) = subst (λ l. c.count_before-count.result ≤ length l) behind c.count_before-count.ensures.within in
    past_commit g.M.Model o p c.requires.kept (g.met.M.Model.keeps p.model.value) c.count_before-count.result c.drop_front.new.self most c.drop_front.ensures

pub returns-clause-committed : goal.returns-clause-committed
returns-clause-committed g c =
    let o : IsExactOrder (event_cmp g.M.Body.Ord.cmp) = events_exact (record { total = g.met.M.Body.Ord.total; same = g.met.M.Model.same }) in
    let p = c.args.self.now in
    let d = c.deref.result.now in
    let behind : take (length d - p.cut) (drop p.cut d) ≡ drop p.cut p.done.items = slice_from p.cut d ∙ ap (drop p.cut) c.deref.ensures.value in
    let x = seen_of p in
    let n = c.count_before-count.result in
    let place : n ≡ position_or_len (λ (e : Event g.row.M-Body.Denot). nat_le c.args.time e.time) x.processed =
    c.count_before-count.ensures.first ∙ ap (position_or_len (λ (e : Event g.row.M-Body.Denot). nat_le c.args.time e.time)) behind in
    let cut = cut_at o (time_at_most g.M.Body.Ord.cmp) c.args.time x.processed (IsAscending-back o x.committed x.processed c.requires.kept.linked.order) in
    let first : take (p.cut + n) p.done.items ≡ x.committed ++ filter (λ (e : Event g.row.M-Body.Denot). nat_lt e.time c.args.time) x.processed =
    take_further p.cut n p.done.items ∙ ap (λ l. x.committed ++ l) (ap (λ k. take k x.processed) place ∙ sym cut.0) in
    let rest : drop (p.cut + n) p.done.items ≡ filter (λ (e : Event g.row.M-Body.Denot). nat_le c.args.time e.time) x.processed =
    sym (drop-drop n p.cut p.done.items) ∙ ap (λ k. drop k x.processed) place ∙ sym cut.1 in
    past_same x.model x.number x.start x.state (take (p.cut + n) p.done.items) (x.committed ++ filter (λ (e : Event g.row.M-Body.Denot). nat_lt e.time c.args.time) x.processed) (drop (p.cut + n) p.done.items) (filter (λ (e : Event g.row.M-Body.Denot). nat_le c.args.time e.time) x.processed) first rest

pub returns-clause-done : goal.returns-clause-done
returns-clause-done g c =
    let p = c.args.self.now in
    take-append-drop (p.cut + c.count_before-count.result) p.done.items ∙ sym (take-append-drop p.cut p.done.items)

use Rattle.std.proofs.Common.{◌≡◌, ◌<◌, List, [], ◌∷◌, ◌++◌, map, length, subst, sym, ap, ◌∙◌, arith, set, get_or, not, ◌==◌}
use Rattle.std.proofs.lemmas.List.{map_push, length-map}
use Rattle.std.proofs.lemmas.List.Elements.{All-nil, All-same, All-push}
use Rattle.rw_exchange.specs.Rings.{out_ring, out_rings, in_rings, in_table, out_sent, in_received, received_table, push_each, AllButOwn, HasCapacity, KnowsFree, NothingSent}
use Rattle.rw_exchange.proofs.Tables.{push_none, row_more, all_but_more}
use Rattle.rw_exchange.specs.Ports.{HasRowFirst}
use Rattle.rw_exchange.proofs.First.{first_more}
use Rattle.rw_exchange.proofs.build.row.Goals as goal

pub loop-k-init : goal.loop-k-init
loop-k-init g c =
    let none : c.in_ok-row.row.items ≡ [] = c.in_ok-row.ensures.items in
    record {
      columns = sym c.len-count.ensures;
      length = c.in_ok-row.ensures.len;
      room = c.in_ok-row.ensures.exact;
      rings = sym (ap (λ xs. push_each (in_table c.args.columns.now.items) (out_rings xs)) none ∙ push_none (in_table c.args.columns.now.items));
      others = subst (λ xs. AllButOwn c.args.own (out_rings xs)) (sym none) (λ k lt. absurd (omega arith));
      capacity = All-same (HasCapacity c.args.capacity) _ _ none (All-nil (HasCapacity c.args.capacity));
      lists = sym (ap (λ xs. push_each (received_table c.args.columns.now.items) (map out_sent xs)) none ∙ push_none (received_table c.args.columns.now.items));
      first = subst (λ xs. HasRowFirst c.args.own (g.G.FirstMessage.first c.args.opener.now c.args.own) (map out_sent xs)) (sym none) (λ k lt other. absurd (omega arith));
      free = λ quiet. All-same (KnowsFree c.args.capacity) _ _ none (All-nil (KnowsFree c.args.capacity));
      sent = λ quiet. All-same NothingSent _ _ none (All-nil NothingSent);
      received = λ quiet nothing. nothing;
    }

pub loop-k-preserved : goal.loop-k-preserved
loop-k-preserved g c =
    let inv = c.loop-k.invariant in
    let xs : List _ = c.loop-k.row.items in
    let x = c.in_ok-producer.producer in
    let items : c.push_reserved.new.self.items ≡ xs ++ x ∷ [] = c.push_reserved.ensures.items in
    let rings : out_rings c.push_reserved.new.self.items ≡ out_rings xs ++ out_ring x ∷ [] = ap out_rings items ∙ map_push out_ring xs x in
    let many : length xs ≡ c.loop-k.k = sym c.loop-k.row.ok.0 ∙ inv.length in
    let long : length (out_rings xs) ≡ c.loop-k.k = length-map xs out_ring ∙ many in
    let wide : c.loop-k.k < length (in_table c.args.columns.now.items) = subst (λ n. c.loop-k.k < n) (sym (length-map c.args.columns.now.items (λ r. in_rings r.items) ∙ (sym c.args.columns.now.ok.0 ∙ sym c.len-count.ensures))) c.loop-k-test.true in
    let sent : map out_sent c.push_reserved.new.self.items ≡ map out_sent xs ++ out_sent x ∷ [] = ap (map out_sent) items ∙ map_push out_sent xs x in
    let much : length (map out_sent xs) ≡ c.loop-k.k = length-map xs out_sent ∙ many in
    let broad : c.loop-k.k < length (received_table c.args.columns.now.items) = subst (λ n. c.loop-k.k < n) (sym (length-map c.args.columns.now.items (λ r. map in_received r.items) ∙ (sym c.args.columns.now.ok.0 ∙ sym c.len-count.ensures))) c.loop-k-test.true in
    record {
      columns = c.in_ok-push_at.ensures.length ∙ inv.columns;
      length = omega (arith, c.push_reserved.ensures.len, inv.length);
      room = c.push_reserved.ensures.capacity ∙ inv.room;
      rings = row_more _ _ (out_rings xs) (out_ring x) c.loop-k.k (in_table c.args.columns.now.items) inv.rings long wide (c.in_ok-push_at.ensures.rings ∙ ap (λ o. set (in_table c.loop-k.columns.items) c.loop-k.k (get_or (in_table c.loop-k.columns.items) c.loop-k.k [] ++ o ∷ [])) (sym c.in_ok-producer.ensures.ring))
          ∙ ap (push_each (in_table c.args.columns.now.items)) (sym rings);
      others = subst (AllButOwn c.args.own) (sym rings) (all_but_more c.args.own (out_rings xs) (out_ring x) inv.others (c.in_ok-producer.ensures.other ∙ ap (λ n. not (n == c.args.own)) (sym long)));
      capacity = All-same (HasCapacity c.args.capacity) _ _ items (All-push (HasCapacity c.args.capacity) xs x inv.capacity c.in_ok-producer.ensures.capacity);
      lists = row_more _ _ (map out_sent xs) (out_sent x) c.loop-k.k (received_table c.args.columns.now.items) inv.lists much broad (◌∙◌ {b = set (received_table c.loop-k.columns.items) c.loop-k.k (get_or (received_table c.loop-k.columns.items) c.loop-k.k [] ++ in_received c.in_ok-producer.consumer ∷ [])} c.in_ok-push_at.ensures.lists (ap (λ o. set (received_table c.loop-k.columns.items) c.loop-k.k (get_or (received_table c.loop-k.columns.items) c.loop-k.k [] ++ o ∷ [])) c.in_ok-producer.ensures.same))
          ∙ ap (push_each (received_table c.args.columns.now.items)) (sym sent);
      first = subst (HasRowFirst c.args.own (g.G.FirstMessage.first c.args.opener.now c.args.own)) (sym sent) (first_more c.args.own (g.G.FirstMessage.first c.args.opener.now c.args.own) (map out_sent xs) (out_sent x) c.loop-k.k much inv.first c.in_ok-producer.ensures.first);
      free = λ quiet. All-same (KnowsFree c.args.capacity) _ _ items (All-push (KnowsFree c.args.capacity) xs x (inv.free quiet) (c.in_ok-producer.ensures.free (quiet c.loop-k.k)));
      sent = λ quiet. All-same NothingSent _ _ items (All-push NothingSent xs x (inv.sent quiet) (c.in_ok-producer.ensures.new (quiet c.loop-k.k)).0);
      received = λ quiet nothing. c.in_ok-push_at.ensures.received (c.in_ok-producer.ensures.new (quiet c.loop-k.k)).1 (inv.received quiet nothing);
    }

pub push_at-requires : goal.push_at-requires
push_at-requires g c = omega (arith, c.loop-k.invariant.columns, c.loop-k-test.true)

pub push_reserved-requires : goal.push_reserved-requires
push_reserved-requires g c = omega (arith, c.loop-k.invariant.length, c.loop-k.invariant.room, c.loop-k-test.true)

pub returns-clause-length : goal.returns-clause-length
returns-clause-length g c = omega (arith, c.loop-k.invariant.length, c.loop-k.auto.k-end, c.loop-k-test.false, c.len-count.ensures)

pub returns-clause-rings : goal.returns-clause-rings
returns-clause-rings g c = c.loop-k.invariant.rings

pub returns-clause-others : goal.returns-clause-others
returns-clause-others g c = c.loop-k.invariant.others

pub returns-clause-capacity : goal.returns-clause-capacity
returns-clause-capacity g c = c.loop-k.invariant.capacity

pub returns-clause-lists : goal.returns-clause-lists
returns-clause-lists g c = c.loop-k.invariant.lists

pub returns-clause-first : goal.returns-clause-first
returns-clause-first g c = c.loop-k.invariant.first

pub returns-clause-free : goal.returns-clause-free
returns-clause-free g c = c.loop-k.invariant.free

pub returns-clause-sent : goal.returns-clause-sent
returns-clause-sent g c = c.loop-k.invariant.sent

pub returns-clause-received : goal.returns-clause-received
returns-clause-received g c = c.loop-k.invariant.received

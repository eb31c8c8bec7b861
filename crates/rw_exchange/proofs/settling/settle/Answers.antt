use Rattle.std.proofs.Common.{refl, ◌≡◌, ◌+◌, ◌<◌, [], ◌∷◌, ◌++◌, map, length, subst, sym, ap, ◌∙◌, arith, vec_len, get_or}
use Rattle.std.proofs.lemmas.List.{map_push, length-map, append_assoc, length-append}
use Rattle.std.proofs.lemmas.List.Elements.{All-nil, All-same, All-push, All-map, All-weaker}
use Rattle.rtrb.specs.Fifo.{EachAllowed}
use Rattle.rw_exchange.specs.Rings.{cell, in_table, out_ring, out_rings, in_rings, out_sent, sent_table, received_table}
use Rattle.rw_exchange.specs.Ports.{entry}
use Rattle.rw_exchange.proofs.Settles.{row_here, walked_at, table_more, each_of_table, none_left}
use Rattle.rw_exchange.proofs.settling.settle.Goals as goal

pub loop-row-init : goal.loop-row-init
loop-row-init g c =
    let none : c.in_ok-lists.lists.items ≡ [] = c.in_ok-lists.ensures.items in
    let len : vec_len c.in_ok-lists.lists ≡ 0 = c.in_ok-lists.ensures.len in
    let rows = c.in_ok-rows.rows.items in
    let ports = c.args.ports.items in
    let many : length rows ≡ length ports = sym (length-map rows (λ r. out_rings r.items)) ∙ (ap length c.in_ok-rows.ensures.out ∙ length-map ports (λ p. p.out)) in
    record {
      room = c.in_ok-lists.ensures.exact ∙ c.len.ensures;
      count = omega (arith, len, ap length c.into_iter-row-iterator.ensures.into_iter_gives.0, many, c.args.ports.ok.0);
      walked = refl;
      done = sym len;
      wide = All-same (λ list. vec_len list ≡ vec_len c.args.ports) _ _ none (All-nil (λ list. vec_len list ≡ vec_len c.args.ports));
      rings = refl;
      fifo = λ i j lt l. absurd (omega (arith, len, lt));
      allowed = λ i j lt l. absurd (omega (arith, len, lt));
      untouched = λ j i le. refl;
    }

pub push_reserved-requires : goal.push_reserved-requires
push_reserved-requires g c = omega (arith, c.loop-row.invariant.room, c.loop-row.invariant.count, ap length c.in-Some.ensures.steps.0)

pub returns-clause-count : goal.returns-clause-count
returns-clause-count g c =
    let inv = c.loop-row.invariant in
    let zero : length c.loop-row.row-iterator.rest.items ≡ 0 = sym c.loop-row.row-iterator.rest.ok.0 ∙ c.in-None.ensures.steps.0 in
    ap length c.of.ensures ∙ (length-map c.loop-row.lists.items (λ r. map (λ v. v.items) r.items) ∙ (sym c.loop-row.lists.ok.0 ∙ omega (arith, zero, inv.count)))

pub returns-clause-fifo : goal.returns-clause-fifo
returns-clause-fifo g c from to l lt =
    let inv = c.loop-row.invariant in
    let zero : length c.loop-row.row-iterator.rest.items ≡ 0 = sym c.loop-row.row-iterator.rest.ok.0 ∙ c.in-None.ensures.steps.0 in
    ap (λ t. entry t to from ++ entry c.of.result from to) (sym c.in_ok-rows.ensures.received)
    ∙ (ap (λ t. entry (received_table c.in_ok-rows.columns.items) to from ++ entry t from to) c.of.ensures
    ∙ (inv.fifo from to (omega (arith, zero, inv.count)) lt
    ∙ (ap (λ z. entry (sent_table z) from to) c.into_iter-row-iterator.ensures.into_iter_gives.0 ∙ ap (λ t. entry t from to) c.in_ok-rows.ensures.sent)))

pub gather-requires-clause-length : goal.gather-requires-clause-length
gather-requires-clause-length g c =
    let inv = c.loop-row.invariant in
    let n = vec_len c.loop-row.lists in
    let r = c.in-Some.ensures.steps.0 in
    let many : length c.args.ports.items ≡ vec_len c.args.ports = sym c.args.ports.ok.0 in
    let within : n < length c.args.ports.items = omega (arith, ap length r, inv.count) in
    let fit = row_here c.args.ports.items c.in_ok-rows.rows.items c.loop-row.yielded c.loop-row.row-iterator.rest.items c.next.new.self.rest.items c.loop-row.columns.items c.in-Some.row n c.requires.opening
    c.in_ok-rows.ensures.out (inv.rings ∙ c.in_ok-rows.ensures.into) (inv.walked ∙ c.into_iter-row-iterator.ensures.into_iter_gives.0) r inv.done within in
    let long : vec_len c.in-Some.row ≡ vec_len c.args.ports = c.in-Some.row.ok.0 ∙ (sym (length-map c.in-Some.row.items out_ring) ∙ (fit.0 ∙ many)) in
    let at : c.len-in-loop-row.result ≡ n = c.len-in-loop-row.ensures in
    long ∙ (sym many ∙ (sym fit.1 ∙ (length-map c.loop-row.columns.items (λ v. in_rings v.items) ∙ sym c.loop-row.columns.ok.0)))

pub gather-requires-clause-deep : goal.gather-requires-clause-deep
gather-requires-clause-deep g c j lt =
    let inv = c.loop-row.invariant in
    let n = vec_len c.loop-row.lists in
    let r = c.in-Some.ensures.steps.0 in
    let many : length c.args.ports.items ≡ vec_len c.args.ports = sym c.args.ports.ok.0 in
    let within : n < length c.args.ports.items = omega (arith, ap length r, inv.count) in
    let fit = row_here c.args.ports.items c.in_ok-rows.rows.items c.loop-row.yielded c.loop-row.row-iterator.rest.items c.next.new.self.rest.items c.loop-row.columns.items c.in-Some.row n c.requires.opening
    c.in_ok-rows.ensures.out (inv.rings ∙ c.in_ok-rows.ensures.into) (inv.walked ∙ c.into_iter-row-iterator.ensures.into_iter_gives.0) r inv.done within in
    let long : vec_len c.in-Some.row ≡ vec_len c.args.ports = c.in-Some.row.ok.0 ∙ (sym (length-map c.in-Some.row.items out_ring) ∙ (fit.0 ∙ many)) in
    let at : c.len-in-loop-row.result ≡ n = c.len-in-loop-row.ensures in
    subst (λ z. z < length (get_or (in_table c.loop-row.columns.items) j [])) (sym at) (fit.2 j (omega arith))

pub gather-requires-clause-paired : goal.gather-requires-clause-paired
gather-requires-clause-paired g c j lt =
    let inv = c.loop-row.invariant in
    let n = vec_len c.loop-row.lists in
    let r = c.in-Some.ensures.steps.0 in
    let many : length c.args.ports.items ≡ vec_len c.args.ports = sym c.args.ports.ok.0 in
    let within : n < length c.args.ports.items = omega (arith, ap length r, inv.count) in
    let fit = row_here c.args.ports.items c.in_ok-rows.rows.items c.loop-row.yielded c.loop-row.row-iterator.rest.items c.next.new.self.rest.items c.loop-row.columns.items c.in-Some.row n c.requires.opening
    c.in_ok-rows.ensures.out (inv.rings ∙ c.in_ok-rows.ensures.into) (inv.walked ∙ c.into_iter-row-iterator.ensures.into_iter_gives.0) r inv.done within in
    let long : vec_len c.in-Some.row ≡ vec_len c.args.ports = c.in-Some.row.ok.0 ∙ (sym (length-map c.in-Some.row.items out_ring) ∙ (fit.0 ∙ many)) in
    let at : c.len-in-loop-row.result ≡ n = c.len-in-loop-row.ensures in
    fit.3 j (omega arith) ∙ ap (λ z. cell (in_table c.loop-row.columns.items) j z) (sym at)

pub loop-row-preserved : goal.loop-row-preserved
loop-row-preserved g c =
    let inv = c.loop-row.invariant in
    let n = vec_len c.loop-row.lists in
    let r = c.in-Some.ensures.steps.0 in
    let many : length c.args.ports.items ≡ vec_len c.args.ports = sym c.args.ports.ok.0 in
    let within : n < length c.args.ports.items = omega (arith, ap length r, inv.count) in
    let fit = row_here c.args.ports.items c.in_ok-rows.rows.items c.loop-row.yielded c.loop-row.row-iterator.rest.items c.next.new.self.rest.items c.loop-row.columns.items c.in-Some.row n c.requires.opening
    c.in_ok-rows.ensures.out (inv.rings ∙ c.in_ok-rows.ensures.into) (inv.walked ∙ c.into_iter-row-iterator.ensures.into_iter_gives.0) r inv.done within in
    let long : vec_len c.in-Some.row ≡ vec_len c.args.ports = c.in-Some.row.ok.0 ∙ (sym (length-map c.in-Some.row.items out_ring) ∙ (fit.0 ∙ many)) in
    let at : c.len-in-loop-row.result ≡ n = c.len-in-loop-row.ensures in
    let row = c.in-Some.row in
    let list = c.in_ok-list.list in
    let lists = c.loop-row.lists.items in
    let more : c.push_reserved.new.self.items ≡ lists ++ list ∷ [] = c.push_reserved.ensures.items in
    let len : vec_len c.push_reserved.new.self ≡ n + 1 = c.push_reserved.ensures.len in
    let recv0 = received_table c.in_ok-rows.columns.items in
    let recv = received_table c.loop-row.columns.items in
    let iter = c.into_iter-row-iterator.result.rest.items in
    record {
      room = c.push_reserved.ensures.capacity ∙ inv.room;
      count = omega (arith, ap length r, inv.count);
      walked = append_assoc c.loop-row.yielded (row ∷ []) c.next.new.self.rest.items ∙ (ap (λ z. c.loop-row.yielded ++ z) (sym r) ∙ inv.walked);
      done = length-append c.loop-row.yielded (row ∷ []) ∙ omega (arith, inv.done);
      wide = All-same (λ list. vec_len list ≡ vec_len c.args.ports) _ _ more (All-push (λ list. vec_len list ≡ vec_len c.args.ports) lists list inv.wide (c.in_ok-list.ensures.length ∙ long));
      rings = c.in_ok-list.ensures.rings ∙ inv.rings;
      fifo = λ i j lt l. table_more n (vec_len c.args.ports) recv0 recv (map (λ r. map (λ v. v.items) r.items) lists) _ (sent_table iter) (map (λ v. v.items) list.items) (map out_sent row.items)
          (length-map lists (λ r. map (λ v. v.items) r.items) ∙ sym c.loop-row.lists.ok.0)
          (ap (map (λ r. map (λ v. v.items) r.items)) more ∙ map_push (λ r. map (λ v. v.items) r.items) lists list) inv.fifo
          (λ j l. ap (λ k. entry recv j k ++ get_or (map (λ v. v.items) list.items) j []) (sym at) ∙ c.in_ok-list.ensures.fifo j (subst (λ z. j < z) (sym long) l))
          (λ j. inv.untouched j n (omega arith)) (walked_at (λ v. map out_sent v.items) c.loop-row.yielded _ _ iter row n [] inv.walked r inv.done) i j (subst (λ z. i < z) len lt) l;
      allowed = λ i j lt l. each_of_table (EachAllowed g.P.Protocol.allows) n (vec_len c.args.ports) recv0 recv (map (λ r. map (λ v. v.items) r.items) lists) _ (map (λ v. v.items) list.items)
          (length-map lists (λ r. map (λ v. v.items) r.items) ∙ sym c.loop-row.lists.ok.0)
          (ap (map (λ r. map (λ v. v.items) r.items)) more ∙ map_push (λ r. map (λ v. v.items) r.items) lists list) inv.allowed
          (λ j l. subst (λ k. EachAllowed g.P.Protocol.allows (entry recv j k) (get_or (map (λ v. v.items) list.items) j [])) at (c.in_ok-list.ensures.allowed j (subst (λ z. j < z) (sym long) l)))
          (λ j. inv.untouched j n (omega arith)) i j (subst (λ z. i < z) len lt) l;
      untouched = λ j i le. c.in_ok-list.ensures.others j i (λ e. omega arith) ∙ inv.untouched j i (omega arith);
    }

pub returns-clause-wide : goal.returns-clause-wide
returns-clause-wide g c =
    let inv = c.loop-row.invariant in
    All-same (λ row. length row ≡ vec_len c.args.ports) _ _ c.of.ensures (All-map (λ row. length row ≡ vec_len c.args.ports) (λ r. map (λ v. v.items) r.items) c.loop-row.lists.items
    (All-weaker (λ r. vec_len r ≡ vec_len c.args.ports) (λ r. length (map (λ v. v.items) r.items) ≡ vec_len c.args.ports) (λ r e. length-map r.items (λ v. v.items) ∙ (sym r.ok.0 ∙ e)) c.loop-row.lists.items inv.wide))

pub returns-clause-allowed : goal.returns-clause-allowed
returns-clause-allowed g c from to l lt =
    let inv = c.loop-row.invariant in
    let zero : length c.loop-row.row-iterator.rest.items ≡ 0 = sym c.loop-row.row-iterator.rest.ok.0 ∙ c.in-None.ensures.steps.0 in
    subst (λ t. EachAllowed g.P.Protocol.allows (entry t to from) (entry c.of.result from to)) c.in_ok-rows.ensures.received
    (subst (λ t. EachAllowed g.P.Protocol.allows (entry (received_table c.in_ok-rows.columns.items) to from) (entry t from to)) (sym c.of.ensures) (inv.allowed from to (omega (arith, inv.count)) lt))

pub returns-clause-own : goal.returns-clause-own
returns-clause-own g c i lt =
    let inv = c.loop-row.invariant in
    let zero : length c.loop-row.row-iterator.rest.items ≡ 0 = sym c.loop-row.row-iterator.rest.ok.0 ∙ c.in-None.ensures.steps.0 in
    let fifo = inv.fifo i i (omega (arith, inv.count)) lt in
    ap (λ t. entry t i i) c.of.ensures ∙ none_left c.args.ports.items c.in_ok-rows.rows.items i _ _ c.requires.opening c.in_ok-rows.ensures.out (subst (λ z. i < z) c.args.ports.ok.0 lt)
    (fifo ∙ ap (λ z. entry (sent_table z) i i) c.into_iter-row-iterator.ensures.into_iter_gives.0)

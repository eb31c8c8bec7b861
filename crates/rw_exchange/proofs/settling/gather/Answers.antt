use Rattle.std.proofs.Common.{refl, ◌≡◌, ℕ, ◌+◌, ◌<◌, List, [], ◌∷◌, ◌++◌, map, length, subst, sym, ap, ◌∙◌, arith, vec_len, get_or, None}
use Rattle.std.proofs.lemmas.List.{map_push, length-map, append_assoc, length-append, map-append, get_or_at}
use Rattle.rtrb.specs.Fifo.{EachAllowed}
use Rattle.rw_exchange.specs.Rings.{cell, in_table, out_ring, out_rings, out_sent, received_table}
use Rattle.rw_exchange.specs.Ports.{entry}
use Rattle.rw_exchange.proofs.Settles.{fifo_more, each_of_row, others_more}
use Rattle.rw_exchange.proofs.settling.gather.Goals as goal

pub loop-out-init : goal.loop-out-init
loop-out-init g c =
    let len : vec_len c.in_ok-lists.lists ≡ 0 = c.in_ok-lists.ensures.len in
    let begun : c.into_iter-out-iterator.result.rest.items ≡ c.args.row.items = c.into_iter-out-iterator.ensures.into_iter_gives.0 in
    record {
      room = c.in_ok-lists.ensures.exact ∙ c.len.ensures;
      count = omega (arith, len, ap length begun, c.args.row.ok.0);
      walked = begun;
      done = sym len;
      columns = refl;
      rings = refl;
      fifo = λ j lt. absurd (omega (arith, len, lt));
      allowed = λ j lt. absurd (omega (arith, len, lt));
      untouched = λ j le. refl;
      others = λ j i other. refl;
    }

pub push_reserved-requires : goal.push_reserved-requires
push_reserved-requires g c = omega (arith, c.loop-out.invariant.room, c.loop-out.invariant.count, ap length c.in-Some.ensures.steps.0)

pub loop-out-preserved : goal.loop-out-preserved
loop-out-preserved g c =
    let inv = c.loop-out.invariant in
    let n = vec_len c.loop-out.lists in
    let out = c.in-Some.out in
    let list = c.in_ok-list.list in
    let r : c.loop-out.out-iterator.rest.items ≡ out ∷ c.next.new.self.rest.items = c.in-Some.ensures.steps.0 in
    let more : c.push_reserved.new.self.items ≡ c.loop-out.lists.items ++ list ∷ [] = c.push_reserved.ensures.items in
    let row : c.loop-out.yielded ++ (out ∷ c.next.new.self.rest.items) ≡ c.args.row.items = ap (λ z. c.loop-out.yielded ++ z) (sym r) ∙ inv.walked in
    let sent : get_or (map out_sent c.args.row.items) n [] ≡ out_sent out = ap (λ z. get_or (map out_sent z) n []) (sym row)
    ∙ (ap (λ z. get_or z n []) (map-append out_sent c.loop-out.yielded (out ∷ c.next.new.self.rest.items)) ∙ get_or_at (map out_sent c.loop-out.yielded) (out_sent out) (map out_sent c.next.new.self.rest.items) [] n (length-map c.loop-out.yielded out_sent ∙ inv.done)) in
    let at : c.len-in-loop-out.result ≡ n = c.len-in-loop-out.ensures in
    let len : vec_len c.push_reserved.new.self ≡ n + 1 = c.push_reserved.ensures.len in
    let recv0 = received_table c.args.columns.now.items in
    let recv = received_table c.loop-out.columns.items in
    let recv' = received_table c.rest_at.new.columns.items in
    let rows : (k : ℕ) → (k ≡ n → ⊥) → get_or recv' k [] ≡ get_or recv k [] = λ k ne. c.rest_at.ensures.rows k (λ e. ne (e ∙ at)) in
    let v : List (List _) = map (λ v. v.items) c.loop-out.lists.items in
    let same : get_or recv n [] ≡ get_or recv0 n [] = inv.untouched n (omega arith) in
    record {
      room = c.push_reserved.ensures.capacity ∙ inv.room;
      count = omega (arith, ap length r, inv.count);
      walked = append_assoc c.loop-out.yielded (out ∷ []) c.next.new.self.rest.items ∙ row;
      done = length-append c.loop-out.yielded (out ∷ []) ∙ omega (arith, inv.done);
      columns = c.rest_at.ensures.length ∙ inv.columns;
      rings = c.rest_at.ensures.rings ∙ inv.rings;
      fifo = λ j lt. fifo_more n c.args.own recv0 recv v _ (map out_sent c.args.row.items) list.items (out_sent out) (length-map c.loop-out.lists.items (λ v. v.items) ∙ sym c.loop-out.lists.ok.0) (ap (map (λ v. v.items)) more ∙ map_push (λ v. v.items) c.loop-out.lists.items list) inv.fifo same
          (ap (λ k. entry recv k c.args.own ++ list.items) (sym at) ∙ c.in_ok-list.ensures.fifo) sent j (subst (λ z. j < z) len lt);
      allowed = λ j lt. each_of_row n c.args.own recv0 recv (EachAllowed g.P.Protocol.allows) v _ list.items (length-map c.loop-out.lists.items (λ v. v.items) ∙ sym c.loop-out.lists.ok.0) (ap (map (λ v. v.items)) more ∙ map_push (λ v. v.items) c.loop-out.lists.items list) inv.allowed same
          (subst (λ k. EachAllowed g.P.Protocol.allows (entry recv k c.args.own) list.items) at c.in_ok-list.ensures.allowed) j (subst (λ z. j < z) len lt);
      untouched = λ j le. rows j (λ e. omega arith) ∙ inv.untouched j (omega arith);
      others = others_more n c.args.own recv0 recv recv' rows (λ k ne. ap (λ m. entry recv' m k) (sym at) ∙ (c.rest_at.ensures.places k ne ∙ ap (λ m. entry recv m k) at)) inv.others;
    }

pub rest_at-requires-clause-paired : goal.rest_at-requires-clause-paired
rest_at-requires-clause-paired g c =
    let inv = c.loop-out.invariant in
    let n = vec_len c.loop-out.lists in
    let out = c.in-Some.out in
    let r : c.loop-out.out-iterator.rest.items ≡ out ∷ c.next.new.self.rest.items = c.in-Some.ensures.steps.0 in
    let row : c.loop-out.yielded ++ (out ∷ c.next.new.self.rest.items) ≡ c.args.row.items = ap (λ z. c.loop-out.yielded ++ z) (sym r) ∙ inv.walked in
    let ring : get_or (out_rings c.args.row.items) n None ≡ out_ring out = ap (λ z. get_or (out_rings z) n None) (sym row)
    ∙ (ap (λ z. get_or z n None) (map-append out_ring c.loop-out.yielded (out ∷ c.next.new.self.rest.items)) ∙ get_or_at (out_rings c.loop-out.yielded) (out_ring out) (out_rings c.next.new.self.rest.items) None n (length-map c.loop-out.yielded out_ring ∙ inv.done)) in
    let at : c.len-in-loop-out.result ≡ n = c.len-in-loop-out.ensures in
    let within : n < vec_len c.args.row = omega (arith, ap length r, inv.count) in
    sym ring ∙ (c.requires.paired n within ∙ (ap (λ t. cell t n c.args.own) (sym inv.rings) ∙ ap (λ k. cell (in_table c.loop-out.columns.items) k c.args.own) (sym at)))

pub rest_at-requires-clause-column : goal.rest_at-requires-clause-column
rest_at-requires-clause-column g c =
    let inv = c.loop-out.invariant in
    let n = vec_len c.loop-out.lists in
    let r = c.in-Some.ensures.steps.0 in
    let at : c.len-in-loop-out.result ≡ n = c.len-in-loop-out.ensures in
    let within : n < vec_len c.args.row = omega (arith, ap length r, inv.count) in
    omega (arith, inv.columns, c.requires.length)

pub rest_at-requires-clause-place : goal.rest_at-requires-clause-place
rest_at-requires-clause-place g c =
    let inv = c.loop-out.invariant in
    let n = vec_len c.loop-out.lists in
    let r = c.in-Some.ensures.steps.0 in
    let at : c.len-in-loop-out.result ≡ n = c.len-in-loop-out.ensures in
    let within : n < vec_len c.args.row = omega (arith, ap length r, inv.count) in
    let deep = c.requires.deep n within in
    subst (λ k. c.args.own < length (get_or (in_table c.loop-out.columns.items) k [])) (sym at) (subst (λ t. c.args.own < length (get_or t n [])) (sym inv.rings) deep)

pub returns-clause-rings : goal.returns-clause-rings
returns-clause-rings g c = c.loop-out.invariant.rings

pub returns-clause-length : goal.returns-clause-length
returns-clause-length g c =
    let zero : length c.loop-out.out-iterator.rest.items ≡ 0 = sym c.loop-out.out-iterator.rest.ok.0 ∙ c.in-None.ensures.steps.0 in
    omega (arith, zero, c.loop-out.invariant.count)

pub returns-clause-fifo : goal.returns-clause-fifo
returns-clause-fifo g c j lt = let all = returns-clause-length g c in c.loop-out.invariant.fifo j (omega (arith, all, lt))

pub returns-clause-allowed : goal.returns-clause-allowed
returns-clause-allowed g c j lt = let all = returns-clause-length g c in c.loop-out.invariant.allowed j (omega (arith, all, lt))

pub returns-clause-others : goal.returns-clause-others
returns-clause-others g c = c.loop-out.invariant.others

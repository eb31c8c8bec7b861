use Rattle.std.proofs.Common.{◌≡◌, sym, [], ◌∷◌, ◌++◌, map, length, ap, ◌∙◌, arith}
use Rattle.rw_exchange.specs.Ports.{outs_of, intos_of}
use Rattle.rw_exchange.specs.Rings.{out_rings, in_rings, out_table, in_table, out_sent, in_received, sent_table, received_table}
use Rattle.rw_exchange.proofs.Crossing.{all_walked, moves_on}
use Rattle.std.proofs.lemmas.List.{nil_from_length}
use Rattle.rw_exchange.proofs.settling.parts.Goals as goal

pub loop-port-init : goal.loop-port-init
loop-port-init g c =
    let rows : c.in_ok-rows.rows.items ≡ [] = c.in_ok-rows.ensures.items in
    let columns : c.in_ok-columns.columns.items ≡ [] = c.in_ok-columns.ensures.items in
    let rest = c.into_iter-port-iterator.result.rest.items in
    let begun : rest ≡ c.args.ports.items = c.into_iter-port-iterator.ensures.into_iter_gives.0 in
    record {
      room = (c.in_ok-rows.ensures.exact ∙ c.len.ensures, c.in_ok-columns.ensures.exact ∙ c.len-2.ensures);
      rows = omega (arith, c.in_ok-rows.ensures.len, ap length begun, c.args.ports.ok.0);
      columns = omega (arith, c.in_ok-columns.ensures.len, ap length begun, c.args.ports.ok.0);
      out = ap (λ rs. out_table rs ++ outs_of rest) rows ∙ ap outs_of begun;
      into = ap (λ rs. in_table rs ++ intos_of rest) columns ∙ ap intos_of begun;
      sent = ap (λ rs. sent_table rs ++ map (λ f. f.sent) rest) rows ∙ ap (map (λ f. f.sent)) begun;
      received = ap (λ rs. received_table rs ++ map (λ f. f.received) rest) columns ∙ ap (map (λ f. f.received)) begun;
    }

pub push_reserved-requires : goal.push_reserved-requires
push_reserved-requires g c = omega (arith, c.loop-port.invariant.room.0, c.loop-port.invariant.rows, ap length c.in-Some.ensures.steps.0)

pub push_reserved-requires-in-loop-port : goal.push_reserved-requires-in-loop-port
push_reserved-requires-in-loop-port g c = omega (arith, c.loop-port.invariant.room.1, c.loop-port.invariant.columns, ap length c.in-Some.ensures.steps.0)

pub loop-port-preserved : goal.loop-port-preserved
loop-port-preserved g c =
    let inv = c.loop-port.invariant in
    let rows = c.loop-port.rows.items in
    let columns = c.loop-port.columns.items in
    let port = c.in-Some.port in
    let outs = c.into_ends-outs.result.0 in
    let ins = c.into_ends-outs.result.1 in
    let r : c.loop-port.port-iterator.rest.items ≡ port ∷ c.next.new.self.rest.items = c.in-Some.ensures.steps.0 in
    record {
      room = (c.push_reserved.ensures.capacity ∙ inv.room.0, c.push_reserved-in-loop-port.ensures.capacity ∙ inv.room.1);
      rows = omega (arith, ap length r, c.push_reserved.ensures.len, inv.rows);
      columns = omega (arith, ap length r, c.push_reserved-in-loop-port.ensures.len, inv.columns);
      out = moves_on (λ f. f.out) (λ v. out_rings v.items) rows _ _ _ _ port outs inv.out r c.into_ends-outs.ensures.out c.push_reserved.ensures.items;
      into = moves_on (λ f. f.into) (λ v. in_rings v.items) columns _ _ _ _ port ins inv.into r c.into_ends-outs.ensures.into c.push_reserved-in-loop-port.ensures.items;
      sent = moves_on (λ f. f.sent) (λ v. map out_sent v.items) rows _ _ _ _ port outs inv.sent r c.into_ends-outs.ensures.sent c.push_reserved.ensures.items;
      received = moves_on (λ f. f.received) (λ v. map in_received v.items) columns _ _ _ _ port ins inv.received r c.into_ends-outs.ensures.received c.push_reserved-in-loop-port.ensures.items;
    }

pub returns-clause-out : goal.returns-clause-out
returns-clause-out g c =
    let zero : length c.loop-port.port-iterator.rest.items ≡ 0 = sym c.loop-port.port-iterator.rest.ok.0 ∙ c.in-None.ensures.steps.0 in
    all_walked (λ f. f.out) (λ v. out_rings v.items) c.loop-port.rows.items (outs_of c.args.ports.items) c.loop-port.port-iterator.rest.items c.loop-port.invariant.out (nil_from_length c.loop-port.port-iterator.rest.items zero)

pub returns-clause-into : goal.returns-clause-into
returns-clause-into g c =
    let zero : length c.loop-port.port-iterator.rest.items ≡ 0 = sym c.loop-port.port-iterator.rest.ok.0 ∙ c.in-None.ensures.steps.0 in
    all_walked (λ f. f.into) (λ v. in_rings v.items) c.loop-port.columns.items (intos_of c.args.ports.items) c.loop-port.port-iterator.rest.items c.loop-port.invariant.into (nil_from_length c.loop-port.port-iterator.rest.items zero)

pub returns-clause-sent : goal.returns-clause-sent
returns-clause-sent g c =
    let zero : length c.loop-port.port-iterator.rest.items ≡ 0 = sym c.loop-port.port-iterator.rest.ok.0 ∙ c.in-None.ensures.steps.0 in
    all_walked (λ f. f.sent) (λ v. map out_sent v.items) c.loop-port.rows.items (map (λ p. p.sent) c.args.ports.items) c.loop-port.port-iterator.rest.items c.loop-port.invariant.sent (nil_from_length c.loop-port.port-iterator.rest.items zero)

pub returns-clause-received : goal.returns-clause-received
returns-clause-received g c =
    let zero : length c.loop-port.port-iterator.rest.items ≡ 0 = sym c.loop-port.port-iterator.rest.ok.0 ∙ c.in-None.ensures.steps.0 in
    all_walked (λ f. f.received) (λ v. map in_received v.items) c.loop-port.columns.items (map (λ p. p.received) c.args.ports.items) c.loop-port.port-iterator.rest.items c.loop-port.invariant.received (nil_from_length c.loop-port.port-iterator.rest.items zero)

use Rattle.std.proofs.Common.{◌≡◌, ◌≢◌, ℕ, ◌<◌, [], ◌∷◌, ◌++◌, map, length, All, sym, ap, ◌∙◌, arith, get_or, None, IsSome, ⊎_elim}
use Rattle.std.proofs.lemmas.List.{length-map, nil_from_length}
use Rattle.std.proofs.lemmas.List.Elements.{All-head, All-nil, All-tail, All-same, All-push}
use Rattle.rw_exchange.specs.Ports.{outs_of, intos_of}
use Rattle.rw_exchange.specs.Rings.{out_ring, in_ring, out_rings, in_rings, out_table, in_table, out_sent, out_free, in_received, sent_table, received_table, HasCapacity}
use Rattle.rw_exchange.proofs.Crossing.{next_is, moves_on, all_walked, numbered_more, opening_of, ends_fit, all_know}
use Rattle.rw_exchange.proofs.Kept.{stay}
use Rattle.rw_exchange.proofs.opening.deal.Given as given
use Rattle.rw_exchange.proofs.opening.deal.Goals as goal
use Rattle.rw_exchange.proofs.opening.deal.Goals.{After-len}

pub loop-outs-init : goal.loop-outs-init
loop-outs-init g c =
    let none : c.in_ok-ports.ports.items ≡ [] = c.in_ok-ports.ensures.items in
    let rows = c.args.rows.items in
    let cols = c.args.columns.items in
    let columns : c.zip-outs-items.result.b.rest.items ≡ cols = c.zip-outs-items.ensures.second.0 in
    let a : c.into_iter-outs-iterator.result.a.rest.items ≡ rows = ap (λ z. z.a.rest.items) c.into_iter-outs-iterator.ensures.into_iter_gives ∙ ap (λ i. i.rest.items) c.zip-outs-items.ensures.first ∙ c.into_iter.ensures.rest in
    let b : c.into_iter-outs-iterator.result.b.rest.items ≡ cols = ap (λ z. z.b.rest.items) c.into_iter-outs-iterator.ensures.into_iter_gives ∙ columns in
    record {
      room = c.in_ok-ports.ensures.exact;
      rows = omega (arith, c.in_ok-ports.ensures.len, ap length a, length-map rows (λ r. out_rings r.items), c.requires.crossed.senders);
      others = omega (arith, c.in_ok-ports.ensures.len, ap length b, length-map cols (λ r. in_rings r.items), c.requires.crossed.receivers);
      out = ap (λ ps. outs_of ps ++ out_table c.into_iter-outs-iterator.result.a.rest.items) none;
      into = ap (λ ps. intos_of ps ++ in_table c.into_iter-outs-iterator.result.b.rest.items) none;
      sent = ap (λ ps. map (λ p. p.sent) ps ++ sent_table c.into_iter-outs-iterator.result.a.rest.items) none;
      received = ap (λ ps. map (λ p. p.received) ps ++ received_table c.into_iter-outs-iterator.result.b.rest.items) none;
      free = ap (λ ps. map (λ p. p.free) ps ++ map (λ v. map out_free v.items) c.into_iter-outs-iterator.result.a.rest.items) none;
      numbered = λ i d lt. absurd (omega (arith, ap length none));
      same = All-same (λ p. p.capacity ≡ c.args.capacity) _ _ none (All-nil (λ p. p.capacity ≡ c.args.capacity));
      lists = All-same (λ p. (length p.sent ≡ length p.out) × (length p.received ≡ length p.into)) _ _ none (All-nil (λ p. (length p.sent ≡ length p.out) × (length p.received ≡ length p.into)));
      capacity = All-same (λ v. All (HasCapacity c.args.capacity) v.items) _ _ a c.requires.capacity;
    }

pub of-port-requires-clause-capacity : goal.of-port-requires-clause-capacity
of-port-requires-clause-capacity g c =
    All-head (λ v. All (HasCapacity c.args.capacity) v.items) c.in-Some.outs c.next.new.self.a.rest.items
    (All-same (λ v. All (HasCapacity c.args.capacity) v.items) _ _ (sym c.in-Some.ensures.steps.0.0) c.loop-outs.invariant.capacity)

pub push_reserved-requires : goal.push_reserved-requires
push_reserved-requires g c = omega (arith, c.loop-outs.invariant.room, c.loop-outs.invariant.rows, ap length c.in-Some.ensures.steps.0.0)

pub returns-clause-count : goal.returns-clause-count
returns-clause-count g c =
    let inv = c.loop-outs.invariant in
    let zero : length c.loop-outs.outs-iterator.a.rest.items ≡ 0 = ⊎_elim (λ rows. sym c.loop-outs.outs-iterator.a.rest.ok.0 ∙ rows.1.0) (λ columns. omega (arith, c.loop-outs.outs-iterator.b.rest.ok.0, columns.1.0, inv.rows, inv.others)) c.in-None.ensures.steps in
    omega (arith, zero, inv.rows)

pub returns-clause-capacity : goal.returns-clause-capacity
returns-clause-capacity g c = c.loop-outs.invariant.same

pub of-port-requires-clause-same : goal.of-port-requires-clause-same
of-port-requires-clause-same g c =
    let inv = c.loop-outs.invariant in
    let ports = c.loop-outs.ports.items in
    let rows = c.args.rows.items in
    let cols = c.args.columns.items in
    let count : length ports ≡ c.len.result = sym c.loop-outs.ports.ok.0 ∙ sym c.len.ensures in
    let out : outs_of ports ++ out_table c.loop-outs.outs-iterator.a.rest.items ≡ out_table rows = inv.out ∙ ap out_table (ap (λ z. z.a.rest.items) c.into_iter-outs-iterator.ensures.into_iter_gives ∙ ap (λ i. i.rest.items) c.zip-outs-items.ensures.first ∙ c.into_iter.ensures.rest) in
    let columns : c.zip-outs-items.result.b.rest.items ≡ cols = c.zip-outs-items.ensures.second.0 in
    let into : intos_of ports ++ in_table c.loop-outs.outs-iterator.b.rest.items ≡ in_table cols = inv.into ∙ ap in_table (ap (λ z. z.b.rest.items) c.into_iter-outs-iterator.ensures.into_iter_gives ∙ columns) in
    let within : c.len.result < c.args.workers = omega (arith, ap length c.in-Some.ensures.steps.0.0, inv.rows, c.len.ensures) in
    let row = next_is (λ v. out_rings v.items) (outs_of ports) (out_table rows) c.loop-outs.outs-iterator.a.rest.items c.next.new.self.a.rest.items c.in-Some.outs c.len.result [] out c.in-Some.ensures.steps.0.0 (length-map ports (λ f. f.out) ∙ count) in
    let column = next_is (λ v. in_rings v.items) (intos_of ports) (in_table cols) c.loop-outs.outs-iterator.b.rest.items c.next.new.self.b.rest.items c.in-Some.ins c.len.result [] into c.in-Some.ensures.steps.1.0 (length-map ports (λ f. f.into) ∙ count) in
    let fit = ends_fit c.args.workers c.len.result (out_table rows) (in_table cols) c.in-Some.outs.items c.in-Some.ins.items c.requires.crossed within row column in
    fit.1 ∙ sym fit.0

-- a port has both ends of the rings to and from each other worker
others_there : (g : given.Over) (c : After-len g) → (k : ℕ) → k < length c.in-Some.outs.items → k ≢ c.len.result → IsSome (get_or c.in-Some.outs.items k None) × IsSome (get_or c.in-Some.ins.items k None)
others_there g c =
    let inv = c.loop-outs.invariant in
    let ports = c.loop-outs.ports.items in
    let rows = c.args.rows.items in
    let cols = c.args.columns.items in
    let count : length ports ≡ c.len.result = sym c.loop-outs.ports.ok.0 ∙ sym c.len.ensures in
    let out : outs_of ports ++ out_table c.loop-outs.outs-iterator.a.rest.items ≡ out_table rows = inv.out ∙ ap out_table (ap (λ z. z.a.rest.items) c.into_iter-outs-iterator.ensures.into_iter_gives ∙ ap (λ i. i.rest.items) c.zip-outs-items.ensures.first ∙ c.into_iter.ensures.rest) in
    let columns : c.zip-outs-items.result.b.rest.items ≡ cols = c.zip-outs-items.ensures.second.0 in
    let into : intos_of ports ++ in_table c.loop-outs.outs-iterator.b.rest.items ≡ in_table cols = inv.into ∙ ap in_table (ap (λ z. z.b.rest.items) c.into_iter-outs-iterator.ensures.into_iter_gives ∙ columns) in
    let within : c.len.result < c.args.workers = omega (arith, ap length c.in-Some.ensures.steps.0.0, inv.rows, c.len.ensures) in
    let row = next_is (λ v. out_rings v.items) (outs_of ports) (out_table rows) c.loop-outs.outs-iterator.a.rest.items c.next.new.self.a.rest.items c.in-Some.outs c.len.result [] out c.in-Some.ensures.steps.0.0 (length-map ports (λ f. f.out) ∙ count) in
    let column = next_is (λ v. in_rings v.items) (intos_of ports) (in_table cols) c.loop-outs.outs-iterator.b.rest.items c.next.new.self.b.rest.items c.in-Some.ins c.len.result [] into c.in-Some.ensures.steps.1.0 (length-map ports (λ f. f.into) ∙ count) in
    (ends_fit c.args.workers c.len.result (out_table rows) (in_table cols) c.in-Some.outs.items c.in-Some.ins.items c.requires.crossed within row column).2

pub of-port-requires-clause-others : goal.of-port-requires-clause-others
of-port-requires-clause-others g c = others_there g (goal.at.of-port-requires-clause-others g c).After-len

pub loop-outs-preserved : goal.loop-outs-preserved
loop-outs-preserved g c =
    let inv = c.loop-outs.invariant in
    let ports = c.loop-outs.ports.items in
    let outs = c.in-Some.outs in
    let ins = c.in-Some.ins in
    let r : c.loop-outs.outs-iterator.a.rest.items ≡ outs ∷ c.next.new.self.a.rest.items = c.in-Some.ensures.steps.0.0 in
    let q : c.loop-outs.outs-iterator.b.rest.items ≡ ins ∷ c.next.new.self.b.rest.items = c.in-Some.ensures.steps.1.0 in
    let more : c.push_reserved.new.self.items ≡ ports ++ c.of-port.result ∷ [] = c.push_reserved.ensures.items in
    record {
      room = c.push_reserved.ensures.capacity ∙ inv.room;
      rows = omega (arith, ap length r, c.push_reserved.ensures.len, inv.rows);
      others = omega (arith, ap length q, c.push_reserved.ensures.len, inv.others);
      out = moves_on (λ v. out_rings v.items) (λ f. f.out) ports _ _ _ _ outs c.of-port.result inv.out r c.of-port.ensures.rings.0 more;
      into = moves_on (λ v. in_rings v.items) (λ f. f.into) ports _ _ _ _ ins c.of-port.result inv.into q c.of-port.ensures.rings.1 more;
      numbered = numbered_more ports _ c.of-port.result inv.numbered (c.of-port.ensures.numbers.0 ∙ (c.len.ensures ∙ c.loop-outs.ports.ok.0)) more;
      sent = moves_on (λ v. map out_sent v.items) (λ f. f.sent) ports _ _ _ _ outs c.of-port.result inv.sent r c.of-port.ensures.sent more;
      received = moves_on (λ v. map in_received v.items) (λ f. f.received) ports _ _ _ _ ins c.of-port.result inv.received q c.of-port.ensures.received more;
      free = moves_on (λ v. map out_free v.items) (λ f. f.free) ports _ _ _ _ outs c.of-port.result inv.free r c.of-port.ensures.free more;
      same = All-same (λ p. p.capacity ≡ c.args.capacity) _ _ more (All-push (λ p. p.capacity ≡ c.args.capacity) ports c.of-port.result inv.same c.of-port.ensures.numbers.1);
      lists = All-same (λ p. (length p.sent ≡ length p.out) × (length p.received ≡ length p.into)) _ _ more (All-push (λ p. (length p.sent ≡ length p.out) × (length p.received ≡ length p.into)) ports c.of-port.result inv.lists (
        ap length c.of-port.ensures.sent ∙ (length-map outs.items out_sent ∙ (sym (length-map outs.items out_ring) ∙ ap length (sym c.of-port.ensures.rings.0))),
        ap length c.of-port.ensures.received ∙ (length-map ins.items in_received ∙ (sym (length-map ins.items in_ring) ∙ ap length (sym c.of-port.ensures.rings.1))),
      ));
      capacity = All-tail (λ v. All (HasCapacity c.args.capacity) v.items) outs _ (All-same (λ v. All (HasCapacity c.args.capacity) v.items) _ _ (sym r) inv.capacity);
    }

pub returns-clause-opening : goal.returns-clause-opening
returns-clause-opening g c =
    let inv = c.loop-outs.invariant in
    let ports = c.loop-outs.ports.items in
    let rows = c.args.rows.items in
    let cols = c.args.columns.items in
    let zero : length c.loop-outs.outs-iterator.a.rest.items ≡ 0 = ⊎_elim (λ rows. sym c.loop-outs.outs-iterator.a.rest.ok.0 ∙ rows.1.0) (λ columns. omega (arith, c.loop-outs.outs-iterator.b.rest.ok.0, columns.1.0, inv.rows, inv.others)) c.in-None.ensures.steps in
    let none : c.loop-outs.outs-iterator.a.rest.items ≡ [] = nil_from_length c.loop-outs.outs-iterator.a.rest.items zero in
    let none' : c.loop-outs.outs-iterator.b.rest.items ≡ [] = nil_from_length c.loop-outs.outs-iterator.b.rest.items (omega (arith, inv.rows, inv.others)) in
    let count : length ports ≡ c.args.workers = sym c.loop-outs.ports.ok.0 ∙ omega (arith, inv.rows) in
    let out : outs_of ports ++ out_table c.loop-outs.outs-iterator.a.rest.items ≡ out_table rows = inv.out ∙ ap out_table (ap (λ z. z.a.rest.items) c.into_iter-outs-iterator.ensures.into_iter_gives ∙ ap (λ i. i.rest.items) c.zip-outs-items.ensures.first ∙ c.into_iter.ensures.rest) in
    let columns : c.zip-outs-items.result.b.rest.items ≡ cols = c.zip-outs-items.ensures.second.0 in
    let into : intos_of ports ++ in_table c.loop-outs.outs-iterator.b.rest.items ≡ in_table cols = inv.into ∙ ap in_table (ap (λ z. z.b.rest.items) c.into_iter-outs-iterator.ensures.into_iter_gives ∙ columns) in
    opening_of ports c.args.workers (out_table rows) (in_table cols) count (all_walked (λ v. out_rings v.items) (λ f. f.out) ports (out_table rows) _ out none) (all_walked (λ v. in_rings v.items) (λ f. f.into) ports (in_table cols) _ into none') c.requires.crossed inv.numbered inv.lists

pub returns-clause-stays : goal.returns-clause-stays
returns-clause-stays g c = stay c.loop-outs.ports.items (returns-clause-opening g c)

pub returns-clause-sent : goal.returns-clause-sent
returns-clause-sent g c =
    let inv = c.loop-outs.invariant in
    let zero : length c.loop-outs.outs-iterator.a.rest.items ≡ 0 = ⊎_elim (λ rows. sym c.loop-outs.outs-iterator.a.rest.ok.0 ∙ rows.1.0) (λ columns. omega (arith, c.loop-outs.outs-iterator.b.rest.ok.0, columns.1.0, inv.rows, inv.others)) c.in-None.ensures.steps in
    all_walked (λ v. map out_sent v.items) (λ f. f.sent) c.loop-outs.ports.items (sent_table c.args.rows.items) _
    (inv.sent ∙ ap sent_table (ap (λ z. z.a.rest.items) c.into_iter-outs-iterator.ensures.into_iter_gives ∙ ap (λ i. i.rest.items) c.zip-outs-items.ensures.first ∙ c.into_iter.ensures.rest))
    (nil_from_length c.loop-outs.outs-iterator.a.rest.items zero)

pub returns-clause-received : goal.returns-clause-received
returns-clause-received g c =
    let inv = c.loop-outs.invariant in
    let zero : length c.loop-outs.outs-iterator.a.rest.items ≡ 0 = ⊎_elim (λ rows. sym c.loop-outs.outs-iterator.a.rest.ok.0 ∙ rows.1.0) (λ columns. omega (arith, c.loop-outs.outs-iterator.b.rest.ok.0, columns.1.0, inv.rows, inv.others)) c.in-None.ensures.steps in
    let columns : c.zip-outs-items.result.b.rest.items ≡ c.args.columns.items = c.zip-outs-items.ensures.second.0 in
    all_walked (λ v. map in_received v.items) (λ f. f.received) c.loop-outs.ports.items (received_table c.args.columns.items) _
    (inv.received ∙ ap received_table (ap (λ z. z.b.rest.items) c.into_iter-outs-iterator.ensures.into_iter_gives ∙ columns))
    (nil_from_length c.loop-outs.outs-iterator.b.rest.items (omega (arith, inv.rows, inv.others)))

pub returns-clause-free : goal.returns-clause-free
returns-clause-free g c known =
    let inv = c.loop-outs.invariant in
    let ports = c.loop-outs.ports.items in
    let rows = c.args.rows.items in
    let zero : length c.loop-outs.outs-iterator.a.rest.items ≡ 0 = ⊎_elim (λ rows. sym c.loop-outs.outs-iterator.a.rest.ok.0 ∙ rows.1.0) (λ columns. omega (arith, c.loop-outs.outs-iterator.b.rest.ok.0, columns.1.0, inv.rows, inv.others)) c.in-None.ensures.steps in
    let none : c.loop-outs.outs-iterator.a.rest.items ≡ [] = nil_from_length c.loop-outs.outs-iterator.a.rest.items zero in
    let begun : c.into_iter-outs-iterator.result.a.rest.items ≡ rows = ap (λ z. z.a.rest.items) c.into_iter-outs-iterator.ensures.into_iter_gives ∙ ap (λ i. i.rest.items) c.zip-outs-items.ensures.first ∙ c.into_iter.ensures.rest in
    all_know c.args.capacity ports rows (returns-clause-opening g c)
    (all_walked (λ v. out_rings v.items) (λ f. f.out) ports (out_table rows) _ (inv.out ∙ ap out_table begun) none)
    (all_walked (λ v. map out_free v.items) (λ f. f.free) ports (map (λ v. map out_free v.items) rows) _ (inv.free ∙ ap (map (λ v. map out_free v.items)) begun) none)
    known

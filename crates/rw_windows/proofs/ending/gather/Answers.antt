use Rattle.std.proofs.Common.{◌≡◌, ◌++◌, ◌<◌, All, length, map, take, get_or, refl, sym, ap, ◌∙◌, subst, arith}
use Rattle.std.proofs.lemmas.List.{length-map}
use Rattle.rw_vt.specs.Order.{weigh}
use Rattle.rw_vt.specs.System.{flatten}
use Rattle.rw_vt.proofs.Laws.{laws_of}
use Rattle.rw_exchange.specs.Ports.{IsOpening, entry, received_between, sent_between}
use Rattle.rw_windows.specs.Batches.{MayFollow, events_in}
use Rattle.rw_windows.proofs.Sums.{weigh-append}
use Rattle.rw_windows.proofs.Lists.{map_twice}
use Rattle.rw_windows.proofs.Ended.{complete, is_left, opening, same_shares, some_of}
use Rattle.rw_windows.proofs.ending.gather.Goals as goal

pub settle-requires : goal.settle-requires
settle-requires g c =
    let ended = c.requires.ended in
    let laws = laws_of g.met.M.Model g.met.M.Body.Ord.total in
    record {
      opening = subst IsOpening (sym c.in_ok-shares.ensures.ports) (opening laws c.args.model c.requires.some ended.4 (some_of c.args.shares.items c.requires.some));
    }

pub join-requires-clause-complete : goal.join-requires-clause-complete
join-requires-clause-complete g c q within none =
    let ended = c.requires.ended in
    let laws = laws_of g.met.M.Model g.met.M.Body.Ord.total in
    let ws = c.args.shares.items in
    complete laws c.args.model c.requires.some ended.4 (some_of ws c.requires.some) q (subst (λ z. q < z) (sym ended.3) within)
    (sym (same_shares (λ h. h.items) (λ w. w.states) c.in_ok-shares.field-0.shares.items ws c.in_ok-shares.ensures.shares q) ∙ none)

pub returns : goal.returns
returns g c = record {
  model = refl;
  left = λ end states events count ended.
      let laws = laws_of g.met.M.Model g.met.M.Body.Ord.total in
      let ws = c.args.shares.items in
      let held = c.in_ok-shares.ensures in
      let ports = c.in_ok-shares.field-0.ports in
      let its = c.in_ok-left.ensures in
      let left = c.in_ok-left.left in
      let lists = c.into_lists.result.items in
      let first = c.in_ok-shares.field-0.events.items in
      let all = c.in_ok-states.states.items in
      let many : ports.len ≡ length ws = ports.ok.0 ∙ ap length held.ports ∙ length-map ws (λ w. w.port) in
      is_left laws c.args.model c.requires.some ended (some_of ws c.requires.some) left (its.count ∙ many) (subst (λ z. All (λ row. length row ≡ z) left) many its.wide)
      (λ i k li lk. subst (λ ps. received_between ps i k ++ entry left i k ≡ sent_between ps i k) held.ports (its.fifo i k (subst (λ z. i < z) (sym many) li) (subst (λ z. k < z) (sym many) lk)))
      (λ i k li lk j b lj. subst (λ ps. MayFollow g.M.Model (received_between ps i k ++ take j (entry left i k)) (get_or (entry left i k) j b)) held.ports (its.allowed i k (subst (λ z. i < z) (sym many) li) (subst (λ z. k < z) (sym many) lk) j b lj))
      (λ i l. its.own i (subst (λ z. i < z) (sym many) l))
      all (c.in_ok-states.ensures.count ∙ sym count)
      (λ q within. c.in_ok-states.ensures.each q (subst (λ z. q < z) count within) ∙ same_shares (λ h. h.items) (λ w. w.states) c.in_ok-shares.field-0.shares.items ws held.shares q)
      c.add_left.new.events.items
      (λ h.
      let more = ap (weigh h) c.in_ok-add_left.ensures.more ∙ weigh-append h first (flatten (map (λ row. events_in (map (λ ring. ring.items) row.items)) c.deref.result.now)) in
      let rings =
      ap (λ z. weigh h (flatten (map (λ row. events_in (map (λ ring. ring.items) row.items)) z))) c.deref.ensures.value
      ∙ ap (λ z. weigh h (flatten z)) (map_twice events_in (λ row. map (λ ring. ring.items) row.items) lists)
      ∙ ap (λ z. weigh h (flatten (map events_in z))) c.into_lists.ensures.lists
      in
      omega (arith, more, rings, held.events h));
}

pub join-requires-clause-some : goal.join-requires-clause-some
join-requires-clause-some g c =
    let held = c.in_ok-shares.field-0.shares.items in
    let many = ap length c.in_ok-shares.ensures.shares in
    omega (arith, c.requires.some, many, length-map held (λ h. h.items), length-map c.args.shares.items (λ w. w.states))

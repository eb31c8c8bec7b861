use Rattle.std.proofs.Common.{◌≡◌, ◌+◌, ◌++◌, ◌<◌, length, map, sym, ap, ◌∙◌, subst, All}
use Rattle.std.proofs.lemmas.List.{length-map}
use Rattle.rw_vt.specs.System.{flatten}
use Rattle.rw_board.specs.Least.{least}
use Rattle.rw_board.specs.Seats.{all_notes}
use Rattle.rw_exchange.specs.Ports.{IsOpening, sent_between, received_between}
use Rattle.rw_rounds.specs.Bags.{weigh}
use Rattle.rw_rounds.specs.Rounds.{weigh_left}
use Rattle.rw_rounds.proofs.gathering.gather.Goals as goal

pub letters_left-requires : goal.letters_left-requires
letters_left-requires g c = record { opening = subst IsOpening (sym c.in_ok-shares.ensures.ports) c.requires.opening }

pub close-floor-requires-clause-all : goal.close-floor-requires-clause-all
close-floor-requires-clause-all g c =
    let ws = c.args.workers.items in
    let seats = c.in_ok-shares.field-0.seats in
    seats.ok.0 ∙ (ap length c.in_ok-shares.ensures.seats ∙ (length-map ws (λ w. w.seat) ∙ c.requires.seats))

pub close-floor-requires-clause-board : goal.close-floor-requires-clause-board
close-floor-requires-clause-board g c = subst (All (λ s. s.board ≡ c.args.board.board)) (sym c.in_ok-shares.ensures.seats) c.requires.board

pub returns : goal.returns
returns g c =
    let ws = c.args.workers.items in
    let held = c.in_ok-shares.ensures in
    let ports = c.in_ok-shares.field-0.ports.items in
    let many : length ports ≡ length ws = ap length held.ports ∙ length-map ws (λ w. w.port) in
    let left = c.in_ok-letters.ensures.left.0 in
    let settled = c.in_ok-letters.ensures.left.1 in
    let letters = c.in_ok-letters.ensures.left.2 in
    let aside = c.in_ok-shares.field-0.aside.items in
    let kept = c.in_ok-shares.field-0.kept.items in
    record {
      shares_are = held.shares;
      letters = record {
        left = left;
        settled = λ i k li lk. subst (λ ps. received_between ps i k ++ left i k ≡ sent_between ps i k) held.ports
            (settled i k (subst (λ n. i < n) (sym many) li) (subst (λ n. k < n) (sym many) lk));
        letters_are = λ h.
            letters h
            ∙ ap (λ n. weigh_left n h left + weigh h (flatten (map (λ k. k.items) kept)) + weigh h (flatten (map (λ a. a.items) aside))) many
            ∙ ap (λ z. weigh_left (length ws) h left + weigh h (flatten z) + weigh h (flatten (map (λ a. a.items) aside))) held.kept
            ∙ ap (λ z. weigh_left (length ws) h left + weigh h (flatten (map (λ w. w.kept) ws)) + weigh h (flatten z)) held.aside;
      };
      floor_is = c.close-floor.ensures.least ∙ ap (λ seats. least (all_notes seats)) held.seats;
    }

-- The workers of a round: as they are set up, and as they are taken apart.
use Rattle.std.proofs.Common.{◌≡◌, ℕ, zero, suc, ◌+◌, ◌*◌, ◌<◌, ◌≤◌, cond, List, [], ◌∷◌, ◌++◌, length, map, get_or, append_assoc, append-nil, add_assoc, refl, sym, ap, ◌∙◌, subst, arith, inl, inr, Option, Some, None, All}
use Rattle.std.specs.Prelude.{◌⊎◌, ◌/◌, ◌%◌, ◌==◌, filter, slice_get}
use Rattle.std.specs.declared.cmp.Ordering.{Ordering}
use Rattle.std.specs.Option.{option_map}
use Rattle.std.specs.declared.vec.Vec.{Vec}
use Rattle.std.proofs.lemmas.Bool.{cases_lt, eq-eqb}
use Rattle.std.proofs.lemmas.List.{get_or-map, length-map}
use Rattle.std.proofs.lemmas.Option.{get_or_from_slice_get}
use Rattle.rw_vt.specs.declared.event.Letter.{Letter}
use Rattle.rw_vt.specs.declared.model.Model.{Ghosts}
use Rattle.rw_vt.specs.System.{Rules, flatten, rules}
use Rattle.rw_vt.proofs.Laws.{Laws}
use Rattle.rw_lp.specs.Process.{ProcessState}
use Rattle.rw_lp.specs.declared.way.Way.{Way}
use Rattle.rw_lp.specs.Calls.{LogicalProcess}
use Rattle.rw_world.specs.declared.parts.Parts.{Parts}
use Rattle.rw_world.specs.Calls.{IsWhole}
use Rattle.rw_exchange.specs.Ports.{PortState, SamePort, IsNew, IsWide, IsOpening, StayAnOpening, sent_to, received_from, sent_between, received_between}
use Rattle.rw_board.specs.Least.{least}
use Rattle.rw_board.specs.Seats.{SeatState, BoardState, new_seat, all_notes}
use Rattle.rw_pool.specs.Sums.{sum_below}
use Rattle.rw_pool.proofs.Lists.{get_there, get_past}
use Rattle.rw_pool.proofs.Dealing.{AreDealt, number_place}
use Rattle.rw_pool.proofs.Sums.{total_add}
use Rattle.rw_rounds.specs.declared.plan.Plan.{Plan}
use Rattle.rw_rounds.specs.declared.between.Between.{Between}
use Rattle.rw_rounds.specs.declared.between.Rest.{Rest}
use Rattle.rw_rounds.specs.declared.round.RoundWork.{RoundWork}
use Rattle.rw_rounds.specs.Plans.{IsInRanges}
use Rattle.rw_rounds.specs.Bags.{weigh}
use Rattle.rw_rounds.specs.Deeds.{Deed, Arrival, Undoing, Execution, Owned, Stepped, Did, Goes, way_of}
use Rattle.rw_rounds.specs.Turns.{WorkerState, process_at, processes_of, TookTurns, Closes}
use Rattle.rw_rounds.specs.Rounds.{role, Begins, TookRound, Round, noted_below}
use Rattle.rw_rounds.specs.Seated.{IsSeated}
use Rattle.rw_rounds.specs.Setting.{AreSetUp, IsBegun}
use Rattle.rw_rounds.specs.Gathering.{AreDone, IsEnded}
use Rattle.rw_rounds.specs.Between.{IsBetween, RoundTo}
use Rattle.rw_rounds.proofs.Cited.{weigh-append}
use Rattle.rw_rounds.proofs.Beginning.{as_many, begins_fit_and_sound}

pub some_of : {X : Type 0} (xs : List X) → 0 < length xs → X
some_of [] h = absurd (omega arith)
some_of (x ∷ xs) h = x

pub two_maps : {X Y Z : Type 0} (k : Y → Z) (f : X → Y) (xs : List X) (i : ℕ) (d : X) (e : Z) → i < length xs → get_or (map k (map f xs)) i e ≡ k (f (get_or xs i d))
two_maps k f xs i d e lt = get_or-map k (map f xs) i (f d) e (subst (λ n. i < n) (sym (length-map xs f)) lt) ∙ ap k (get_or-map f xs i d (f d) lt)

-- a worker gets no process that it did not have
module _ {S B : Type 0} (y : Rules S B) where
  stepped_none : (p : ℕ) (By : ProcessState S B → ProcessState S B → List (Letter B) → Type 0) (a b : Owned S B) (x z : ProcessState S B) (out : List (Letter B)) → Stepped p By a b x z out → (q : ℕ) → a q ≡ None → b q ≡ None
  stepped_none p By a b x z out s q none = s.others q (λ is. (let some : None ≡ Some x = sym none ∙ ap a is ∙ s.was in cc)) ∙ none

  did_none : (g : ℕ) (way : Way) (d : Deed B) (a b : Owned S B) (out : List (Letter B)) → Did y g way d a b out → (q : ℕ) → a q ≡ None → b q ≡ None
  did_none g way (Arrival l) a b out d = stepped_none l.event.to _ a b d.0 d.1 out d.2
  did_none g way (Undoing p) a b out d = stepped_none p _ a b d.0 d.1 out d.2
  did_none g way (Execution p) a b out d = stepped_none p _ a b d.0 d.1 out d.2

  goes_none : (g : ℕ) (way : Way) (ds : List (Deed B)) (a b : Owned S B) (given : List (Letter B)) → Goes y g way ds a b given → (q : ℕ) → a q ≡ None → b q ≡ None
  goes_none g way [] a b given go q none = ap (λ f. f q) go.0 ∙ none
  goes_none g way (d ∷ ds) a b given go q none = goes_none g way ds go.0 b go.2 go.4 q (did_none g way d a go.0 go.1 go.3 q none)

-- what turns leave as it was
pub record Stays {M S B : Type 0} (a b : WorkerState M S B) : Type 0 where
  pub role : b.role ≡ a.role
  pub port : SamePort a.port b.port
  pub board : b.seat.board ≡ a.seat.board

module _ {M S B : Type 0} (y : Rules S B) where
  stays_then : (a c b : WorkerState M S B) → Stays a c → Stays c b → Stays a b
  stays_then a c b f s = record {
    role = s.role ∙ f.role;
    port = record { worker = s.port.worker ∙ f.port.worker; capacity = s.port.capacity ∙ f.port.capacity; out = s.port.out ∙ f.port.out; into = s.port.into ∙ f.port.into; sent = s.port.sent ∙ f.port.sent; received = s.port.received ∙ f.port.received };
    board = s.board ∙ f.board;
  }

  stays_none : (a b : WorkerState M S B) → b ≡ a → Stays a b
  stays_none a b same = subst (Stays a) (sym same) (record { role = refl; port = record { worker = refl; capacity = refl; out = refl; into = refl; sent = refl; received = refl }; board = refl })

  pub turns_stay : (turns : ℕ) (a b : WorkerState M S B) → TookTurns y turns a b → Stays a b
  turns_stay zero a b same = stays_none a b same
  turns_stay (suc turns) a b h = stays_then a h.0 b (record { role = h.2.role; port = h.2.same_port; board = h.2.same_board }) (turns_stay turns h.0 b h.3)

  pub turns_none : (turns : ℕ) (a b : WorkerState M S B) → TookTurns y turns a b → (q : ℕ) → processes_of a q ≡ None → processes_of b q ≡ None
  turns_none zero a b same q none = ap (λ w. processes_of w q) same ∙ none
  turns_none (suc turns) a b h q none = turns_none turns h.0 b h.3 q (goes_none y a.role.collected (way_of a.role.plan.lazy) h.2.deeds (processes_of a) (processes_of h.0) h.2.given h.2.goes q none)

  closing_stays : (a b : WorkerState M S B) → Closes a b → Stays a b
  closing_stays a b k = subst (Stays a) (sym k) (record { role = refl; port = record { worker = refl; capacity = refl; out = refl; into = refl; sent = refl; received = refl }; board = refl })

module _ {M S B U : Type 0} {model : Ghosts M S B U} {order : B → B → Ordering} where
  pub round_stays : (m : M) (turns : ℕ) (a b : WorkerState M S B) → TookRound model order m turns a b → Stays a b
  round_stays m turns a b t = stays_then (rules model order m) a t.between b (turns_stay (rules model order m) turns a t.between t.turns_are) (closing_stays (rules model order m) t.between b t.closes)

-- all notes, the first seat's first
noted_first : (n : ℕ) (seats : ℕ → SeatState) → noted_below (suc n) seats ≡ (seats 0).noted ++ noted_below n (λ i. seats (suc i))
noted_first zero seats = sym (append-nil (seats 0).noted)
noted_first (suc n) seats = ap (λ ts. ts ++ (seats (suc n)).noted) (noted_first n seats) ∙ append_assoc (seats 0).noted (noted_below n (λ i. seats (suc i))) (seats (suc n)).noted

all_noted : {W : Type 0} (f : W → SeatState) (ws : List W) (d : W) → all_notes (map f ws) ≡ noted_below (length ws) (λ i. f (get_or ws i d))
all_noted f [] d = refl
all_noted f (w ∷ ws) d = ap (λ ts. (f w).noted ++ ts) (all_noted f ws d) ∙ sym (noted_first (length ws) (λ i. f (get_or (w ∷ ws) i d)))

total_first : (n : ℕ) (f : ℕ → ℕ) → sum_below (suc n) f ≡ f 0 + sum_below n (λ i. f (suc i))
total_first zero f = omega arith
total_first (suc n) f = omega (arith, total_first n f)

-- what lists weigh that are joined
pub weigh_flatten : {W X : Type 0} (h : X → ℕ) (f : W → List X) (ws : List W) (d : W) → weigh h (flatten (map f ws)) ≡ sum_below (length ws) (λ i. weigh h (f (get_or ws i d)))
weigh_flatten h f [] d = refl
weigh_flatten h f (w ∷ ws) d =
    weigh-append h (f w) (flatten (map f ws))
    ∙ ap (λ k. weigh h (f w) + k) (weigh_flatten h f ws d)
    ∙ sym (total_first (length ws) (λ i. weigh h (f (get_or (w ∷ ws) i d))))

-- the workers are set up
pub record StandReady {M S B U : Type 0} (plan : Plan) (x : Parts M S B U) (ws : List (WorkerState M S B)) (shares : List (List (LogicalProcess M S B))) (boxes : List (List (Letter B))) (ports : List (PortState (Letter B))) (seats : List SeatState) (its : BoardState) : Type 0 where
  pub many : length ws ≡ plan.workers
  pub roles : (i : ℕ) → i < plan.workers → slice_get (map (λ w. w.role) ws) i ≡ Some (role plan x.collected i)
  pub processes : map (λ w. w.processes) ws ≡ shares
  pub inboxes : map (λ w. w.inbox) ws ≡ boxes
  pub ports_are : map (λ w. w.port) ws ≡ ports
  pub seats_are : map (λ w. w.seat) ws ≡ seats
  pub none : All (λ w. (w.kept ≡ []) × (w.aside ≡ [])) ws
  pub dealt : AreDealt plan.workers shares x.processes.items
  pub sorted_out : (i : ℕ) → i < plan.workers → get_or boxes i [] ≡ filter (λ l. l.event.to % plan.workers == i) x.letters.items
  pub opening : IsOpening ports
  pub new_ports : All IsNew ports
  pub new_seats : All (λ s. s ≡ new_seat its.board) seats

pub set_up_from : {M S B U : Type 0} (plan : Plan) (x : Parts M S B U) (its : BoardState) (shares : List (List (LogicalProcess M S B))) (ws : List (WorkerState M S B)) → AreSetUp plan x.collected shares x.letters.items its ws → AreDealt plan.workers shares x.processes.items
    → StandReady plan x ws shares (map (λ w. w.inbox) ws) (map (λ w. w.port) ws) (map (λ w. w.seat) ws) its
set_up_from plan x its shares ws out dealt = record {
  many = out.many;
  roles = out.roles;
  processes = out.own_processes;
  inboxes = refl;
  ports_are = refl;
  seats_are = refl;
  none = out.none;
  dealt = dealt;
  sorted_out = out.own_letters;
  opening = out.opening;
  new_ports = out.new_ports;
  new_seats = out.new_seats;
}

-- each of these workers has made its round
pub record AllTook {M S B U : Type 0} (model : Ghosts M S B U) (order : B → B → Ordering) (m : M) (turns : ℕ) (ws ws' : List (WorkerState M S B)) : Type 0 where
  pub long : length ws' ≡ length ws
  pub went : (i : ℕ) (d d' : WorkerState M S B) → i < length ws → TookRound model order m turns (get_or ws i d) (get_or ws' i d')

-- A round of these parts, whose workers begin as set up
module _ {M S B U : Type 0} {model : Ghosts M S B U} {order : B → B → Ordering} (laws : Laws model order) {plan : Plan} {x : Parts M S B U} (ranges : IsInRanges plan) (whole : IsWhole model order x)
    {ws : List (WorkerState M S B)} {shares : List (List (LogicalProcess M S B))} {boxes : List (List (Letter B))} {ports : List (PortState (Letter B))} {seats : List SeatState} {its : BoardState} where
  module _ (up : StandReady plan x ws shares boxes ports seats its) where
    pub ports_many : length ports ≡ plan.workers
    ports_many = ap length (sym up.ports_are) ∙ length-map ws (λ w. w.port) ∙ up.many

    port_at : (i : ℕ) (d : WorkerState M S B) → i < length ws → get_or ports i d.port ≡ (get_or ws i d).port
    port_at i d lt = ap (λ z. get_or z i d.port) (sym up.ports_are) ∙ get_or-map (λ w. w.port) ws i d d.port lt

    seat_at : (i : ℕ) (d : WorkerState M S B) → i < length ws → get_or seats i d.seat ≡ (get_or ws i d).seat
    seat_at i d lt = ap (λ z. get_or z i d.seat) (sym up.seats_are) ∙ get_or-map (λ w. w.seat) ws i d d.seat lt

    seat_new : (i : ℕ) (d : WorkerState M S B) → i < length ws → (get_or ws i d).seat ≡ new_seat its.board
    seat_new i d lt = sym (seat_at i d lt) ∙ up.new_seats i d.seat (subst (λ n. i < n) (sym (length-map ws (λ w. w.seat)) ∙ ap length up.seats_are) lt)

    pub begins_at : (i : ℕ) (d : WorkerState M S B) → i < plan.workers → Begins x.processes.items x.letters.items (role plan x.collected i) (get_or ws i d)
    begins_at i d below =
        let lt : i < length ws = subst (λ n. i < n) (sym up.many) below in
        let lp : i < length ports = subst (λ n. i < n) (sym ports_many) below in
        let own = port_at i d lt in
        record {
          role = sym (get_or-map (λ w. w.role) ws i d d.role lt) ∙ get_or_from_slice_get (map (λ w. w.role) ws) i (role plan x.collected i) d.role (up.roles i below);
          processes_are = λ place. ap (λ h. slice_get h place) (sym (get_or-map (λ w. w.processes) ws i d [] lt) ∙ ap (λ z. get_or z i []) up.processes) ∙ up.dealt i place below;
          inbox = sym (get_or-map (λ w. w.inbox) ws i d [] lt) ∙ ap (λ z. get_or z i []) up.inboxes ∙ up.sorted_out i below;
          none_kept = (up.none i d lt).0;
          none_aside = (up.none i d lt).1;
          its_port = ap (λ p. p.worker) (sym own) ∙ up.opening.numbered i d.port lp;
          wide = subst (λ p. IsWide plan.workers p) own (subst (λ n. IsWide n (get_or ports i d.port)) ports_many (up.opening.wide i d.port lp));
          new = subst (λ p. IsNew p) own (up.new_ports i d.port lp);
          none_noted = ap (λ s. s.noted) (seat_new i d lt);
        }

    pub all_seated : All (λ w. IsSeated model order x.model its w) ws
    all_seated i d lt =
        let below : i < plan.workers = subst (λ n. i < n) up.many lt in
        record { fit = begins_fit_and_sound x whole plan i below (get_or ws i d) (begins_at i d below) laws ranges; board = ap (λ s. s.board) (seat_new i d lt) }

    module _ {ws' : List (WorkerState M S B)} (took : AllTook model order x.model plan.turns ws ws') where
      pub opening_after : (ports' : List (PortState (Letter B))) → StayAnOpening ports → ports' ≡ map (λ w. w.port) ws' → IsOpening ports'
      opening_after ports' stay is = stay ports' (
        ap length is ∙ length-map ws' (λ w. w.port) ∙ took.long ∙ up.many ∙ sym ports_many,
        λ i d lt.
            let below : i < length ws = subst (λ n. i < n) (ports_many ∙ sym up.many) lt in
            let e : WorkerState M S B = some_of ws (omega arith) in
            let a : get_or ports i d ≡ (get_or ws i e).port = ap (λ z. get_or z i d) (sym up.ports_are) ∙ get_or-map (λ w. w.port) ws i e d below in
            let b : get_or ports' i d ≡ (get_or ws' i e).port = ap (λ z. get_or z i d) is ∙ get_or-map (λ w. w.port) ws' i e d (subst (λ n. i < n) (sym took.long) below) in
            subst (λ z. SamePort z (get_or ports' i d)) (sym a) (subst (λ z. SamePort (get_or ws i e).port z) (sym b) (round_stays x.model plan.turns (get_or ws i e) (get_or ws' i e) (took.went i e e below)).port),
      )

      pub seats_after : (seats' : List SeatState) → seats' ≡ map (λ w. w.seat) ws' → All (λ s. s.board ≡ its.board) seats'
      seats_after seats' is i d lt =
          let below : i < length ws = subst (λ n. i < n) (ap length is ∙ length-map ws' (λ w. w.seat) ∙ took.long) lt in
          let e : WorkerState M S B = some_of ws (omega arith) in
          ap (λ s. s.board) (ap (λ z. get_or z i d) is ∙ get_or-map (λ w. w.seat) ws' i e d (subst (λ n. i < n) (sym took.long) below))
          ∙ (round_stays x.model plan.turns (get_or ws i e) (get_or ws' i e) (took.went i e e below)).board
          ∙ ap (λ s. s.board) (seat_new i e below)

      role_after : (i : ℕ) (d : WorkerState M S B) → i < plan.workers → (get_or ws' i d).role ≡ role plan x.collected i
      role_after i d below = (round_stays x.model plan.turns (get_or ws i d) (get_or ws' i d) (took.went i d d (subst (λ n. i < n) (sym up.many) below))).role ∙ (begins_at i d below).role

      -- process q is there after the round where it was before
      pub there_after : (d : WorkerState M S B) (q : ℕ) → q < length x.processes.items → slice_get (get_or ws' (q % plan.workers) d).processes (q / plan.workers) ≡ None → ⊥
      there_after d q within =
          let some : 0 < plan.workers = omega (arith, ranges.workers.0) in
          let i : ℕ = q % plan.workers in
          let below : q % plan.workers < plan.workers = omega arith in
          let r = role_after (q % plan.workers) d below in
          let fit = (took.went (q % plan.workers) d d (subst (λ n. q % plan.workers < n) (sym up.many) below)).fit in
          let n = as_many x whole in
          let e = fit.complete q (subst (λ k. q < k) n within) (ap (λ k. q % k.plan.workers) r ∙ sym (ap (λ k. k.number) r)) in
          get_there (get_or ws' (q % plan.workers) d).processes (q / plan.workers) (subst (λ k. q / k.plan.workers < length (get_or ws' (q % plan.workers) d).processes) r e)

      -- and no other process is
      pub none_past : (d : WorkerState M S B) (q : ℕ) → length x.processes.items ≤ q → slice_get (get_or ws' (q % plan.workers) d).processes (q / plan.workers) ≡ None
      none_past d q past =
          let some : 0 < plan.workers = omega (arith, ranges.workers.0) in
          let below : q % plan.workers < plan.workers = omega arith in
          let number : q % plan.workers + (q / plan.workers) * plan.workers ≡ q = omega arith in
          let first = get_or ws (q % plan.workers) d in
          let last = get_or ws' (q % plan.workers) d in
          let begins = begins_at (q % plan.workers) d below in
          let w = took.went (q % plan.workers) d d (subst (λ n. q % plan.workers < n) (sym up.many) below) in
          let was : slice_get first.processes (q / plan.workers) ≡ None = begins.processes_are (q / plan.workers) ∙ ap (slice_get x.processes.items) number ∙ get_past x.processes.items q past in
          let before : processes_of first q ≡ None = subst (λ k. process_at k first.processes q ≡ None) (sym begins.role) (at_its_worker first.processes (q % plan.workers) q refl ∙ ap (option_map (λ l. l.process)) was) in
          let after : processes_of last q ≡ None = ap (λ v. processes_of v q) w.closes ∙ turns_none (rules model order x.model) plan.turns first w.between w.turns_are q before in
          nowhere (slice_get last.processes (q / plan.workers)) (sym (at_its_worker last.processes (q % plan.workers) q refl) ∙ subst (λ k. process_at k last.processes q ≡ None) (role_after (q % plan.workers) d below) after)
        where
          at_its_worker : (ls : List (LogicalProcess M S B)) (i q : ℕ) → q % plan.workers ≡ i → process_at (role plan x.collected i) ls q ≡ option_map (λ l. l.process) (slice_get ls (q / plan.workers))
          at_its_worker ls i q own = ap (λ b. cond b (option_map (λ l. l.process) (slice_get ls (q / plan.workers))) None) (eq-eqb (q % plan.workers) i own)

          nowhere : (o : Option (LogicalProcess M S B)) → option_map (λ l. l.process) o ≡ None → o ≡ None
          nowhere None none = refl
          nowhere (Some l) none = cc

      hand_after : (shares' : List (List (LogicalProcess M S B))) (d : WorkerState M S B) (i : ℕ) → shares' ≡ map (λ w. w.processes) ws' → i < plan.workers → get_or shares' i [] ≡ (get_or ws' i d).processes
      hand_after shares' d i is below = ap (λ z. get_or z i []) is ∙ get_or-map (λ w. w.processes) ws' i d [] (subst (λ n. i < n) (sym (took.long ∙ up.many)) below)

      -- what the shares have, by number
      pub from_hands_after : (shares' : List (List (LogicalProcess M S B))) (d : WorkerState M S B) (q k : ℕ) → shares' ≡ map (λ w. w.processes) ws' → k ≡ plan.workers → slice_get (get_or shares' (q % k) []) (q / k) ≡ slice_get (get_or ws' (q % plan.workers) d).processes (q / plan.workers)
      from_hands_after shares' d q k is same =
          let some : 0 < plan.workers = omega (arith, ranges.workers.0) in
          let below : q % plan.workers < plan.workers = omega arith in
          ap (λ n. slice_get (get_or shares' (q % n) []) (q / n)) same ∙ ap (λ h. slice_get h (q / plan.workers)) (hand_after shares' d (q % plan.workers) is below)

      -- the processes are joined in the order of their numbers
      pub joined : (all : List (LogicalProcess M S B)) (shares' : List (List (LogicalProcess M S B))) (d : WorkerState M S B) (k : ℕ) → shares' ≡ map (λ w. w.processes) ws' → k ≡ plan.workers → length all ≡ length x.processes.items
          → ((q : ℕ) → q < length x.processes.items → slice_get all q ≡ slice_get (get_or shares' (q % k) []) (q / k)) → (q : ℕ) → slice_get all q ≡ slice_get (get_or ws' (q % plan.workers) d).processes (q / plan.workers)
      joined all shares' d k is same count each q = go (cases_lt q (length x.processes.items))
        where
          go : (q < length x.processes.items) ⊎ (length x.processes.items ≤ q) → slice_get all q ≡ slice_get (get_or ws' (q % plan.workers) d).processes (q / plan.workers)
          go (inl within) = each q within ∙ from_hands_after shares' d q k is same
          go (inr past) = get_past all q (omega (arith, count, past)) ∙ sym (none_past d q past)

      -- what was left on the way between two workers
      pub settled : (ports' : List (PortState (Letter B))) (left : ℕ → ℕ → List (Letter B)) (d : WorkerState M S B) → ports' ≡ map (λ w. w.port) ws' → ((i k : ℕ) → i < plan.workers → k < plan.workers → received_between ports' i k ++ left i k ≡ sent_between ports' i k)
          → (i k : ℕ) → i < plan.workers → k < plan.workers → received_from (get_or ws' k d).port i ++ left i k ≡ sent_to (get_or ws' i d).port k
      settled ports' left d is fifo i k li lk =
          let within : (j : ℕ) → j < plan.workers → j < length ws' = λ j l. subst (λ n. j < n) (sym (took.long ∙ up.many)) l in
          let r : received_between ports' i k ≡ received_from (get_or ws' k d).port i = ap (λ z. get_or (get_or (map (λ p. p.received) z) k []) i []) is ∙ ap (λ z. get_or z i []) (two_maps (λ p. p.received) (λ w. w.port) ws' k d [] (within k lk)) in
          let s : sent_between ports' i k ≡ sent_to (get_or ws' i d).port k = ap (λ z. get_or (get_or (map (λ p. p.sent) z) i []) k []) is ∙ ap (λ z. get_or z k []) (two_maps (λ p. p.sent) (λ w. w.port) ws' i d [] (within i li)) in
          ap (λ z. z ++ left i k) (sym r) ∙ fifo i k li lk ∙ s

      pub floor_after : (l : ℕ) (d : WorkerState M S B) → l ≡ least (all_notes (map (λ w. w.seat) ws')) → l ≡ least (noted_below plan.workers (λ i. (get_or ws' i d).seat))
      floor_after l d is = is ∙ ap least (all_noted (λ w. w.seat) ws' d ∙ ap (λ n. noted_below n (λ i. (get_or ws' i d).seat)) (took.long ∙ up.many))

      pub kept_after : (h : Letter B → ℕ) (kept aside : List (List (Letter B))) (d : WorkerState M S B) → kept ≡ map (λ w. w.kept) ws' → aside ≡ map (λ w. w.aside) ws'
          → weigh h (flatten kept) + weigh h (flatten aside) ≡ sum_below plan.workers (λ i. weigh h (get_or ws' i d).kept + weigh h (get_or ws' i d).aside)
      kept_after h kept aside d is too =
          let many : length ws' ≡ plan.workers = took.long ∙ up.many in
          let k : weigh h (flatten kept) ≡ sum_below plan.workers (λ i. weigh h (get_or ws' i d).kept) = ap (λ z. weigh h (flatten z)) is ∙ weigh_flatten h (λ w. w.kept) ws' d ∙ ap (λ n. sum_below n (λ i. weigh h (get_or ws' i d).kept)) many in
          let a : weigh h (flatten aside) ≡ sum_below plan.workers (λ i. weigh h (get_or ws' i d).aside) = ap (λ z. weigh h (flatten z)) too ∙ weigh_flatten h (λ w. w.aside) ws' d ∙ ap (λ n. sum_below n (λ i. weigh h (get_or ws' i d).aside)) many in
          omega (arith, k, a, total_add plan.workers (λ i. weigh h (get_or ws' i d).kept) (λ i. weigh h (get_or ws' i d).aside))

-- a list, with what f has for each of its places
module _ {X : Type 0} where
  abbrev or_else : Option X → X → X
  or_else None x = x
  or_else (Some y) x = y

  abbrev pub relisted : (ℕ → Option X) → ℕ → List X → List X
  relisted f k [] = []
  relisted f k (x ∷ xs) = or_else (f k) x ∷ relisted f (suc k) xs

  pub relisted-long : (f : ℕ → Option X) (k : ℕ) (xs : List X) → length (relisted f k xs) ≡ length xs
  relisted-long f k [] = refl
  relisted-long f k (x ∷ xs) = ap suc (relisted-long f (suc k) xs)

  some_there : (o : Option X) (x : X) → (o ≡ None → ⊥) → Some (or_else o x) ≡ o
  some_there None x some = absurd (some refl)
  some_there (Some y) x some = refl

  pub relisted-at : (f : ℕ → Option X) (k : ℕ) (xs : List X) (i : ℕ) → i < length xs → (f (i + k) ≡ None → ⊥) → slice_get (relisted f k xs) i ≡ f (i + k)
  relisted-at f k [] i within some = absurd (omega arith)
  relisted-at f k (x ∷ xs) zero within some =
      let e : 0 + k ≡ k = omega arith in
      some_there (f k) x (λ none. some (ap f e ∙ none)) ∙ ap f (sym e)
  relisted-at f k (x ∷ xs) (suc i) within some =
      let e : i + suc k ≡ suc i + k = omega arith in
      relisted-at f (suc k) xs i (omega arith) (λ none. some (ap f (sym e) ∙ none)) ∙ ap f e

-- a vector with as many other items
abbrev pub with_items : {X Z : Type 0} (v : Vec X Z) (ys : List X) → length ys ≡ length v.items → Vec X Z
with_items v ys long = record { ptr = v.ptr; len = v.len; cap = v.cap; alloc = v.alloc; items = ys; ok = (v.ok.0 ∙ sym long, v.ok.1); small = v.small }

-- A round of workers that have the processes of these parts
module _ {M S B U : Type 0} {model : Ghosts M S B U} {order : B → B → Ordering} (laws : Laws model order) {plan : Plan} {x : Parts M S B U} (ranges : IsInRanges plan) (whole : IsWhole model order x)
    {G : Type 0} {b : Between M G S B U} {work : RoundWork M G S B U} {ws : List (WorkerState M S B)} {rest : Rest M S B U} (stands : IsBetween plan.workers x b) (begun : IsBegun plan b work ws rest) where
  set_up : AreSetUp plan x.collected (map (λ h. h.items) b.shares.items) x.letters.items work.board ws
  set_up =
      subst (λ g. AreSetUp plan g (map (λ h. h.items) b.shares.items) x.letters.items work.board ws) stands.collected_is
      (subst (λ ls. AreSetUp plan b.rest.collected (map (λ h. h.items) b.shares.items) ls work.board ws) stands.letters_are begun.set_up)

  ready : StandReady plan x ws (map (λ h. h.items) b.shares.items) (map (λ w. w.inbox) ws) (map (λ w. w.port) ws) (map (λ w. w.seat) ws) work.board
  ready = set_up_from plan x work.board (map (λ h. h.items) b.shares.items) ws set_up stands.dealt

  its_model : work.model ≡ x.model
  its_model = begun.model_is ∙ stands.model_is

  pub begun_seated : All (λ w. IsSeated model order work.model work.board w) ws
  begun_seated = subst (λ m. All (λ w. IsSeated model order m work.board w) ws) (sym its_model) (all_seated laws ranges whole ready)

  module _ {ws' : List (WorkerState M S B)} (took : AllTook model order work.model work.turns ws ws') where
    all_took : AllTook model order x.model plan.turns ws ws'
    all_took = subst (λ m. AllTook model order m plan.turns ws ws') its_model (subst (λ n. AllTook model order work.model n ws ws') begun.turns_are took)

    as_before : length ws' ≡ plan.workers
    as_before = took.long ∙ ready.many

    one_of : WorkerState M S B
    one_of = some_of ws (omega (arith, ready.many, ranges.workers.0))

    there : (i : ℕ) → i < plan.workers → i < length ws'
    there i li = subst (λ n. i < n) (sym as_before) li

    pub all_done : AreDone work.board ws'
    all_done = record {
      opening = opening_after laws ranges whole ready all_took (map (λ w. w.port) ws') begun.set_up.stays refl;
      seats = as_before ∙ sym begun.set_up.seats;
      board = seats_after laws ranges whole ready all_took (map (λ w. w.seat) ws') refl;
    }

    module _ (c : Between M G S B U) (floor : ℕ) (ended : IsEnded work ws' rest c floor) where
      abbrev process_of : ℕ → Option (LogicalProcess M S B)
      process_of q = slice_get (get_or (map (λ w. w.processes) ws') (q % plan.workers) []) (q / plan.workers)

      -- the processes by their numbers, as the workers have them after the round
      abbrev all : List (LogicalProcess M S B)
      all = relisted process_of 0 x.processes.items

      long : length all ≡ length x.processes.items
      long = relisted-long process_of 0 x.processes.items

      -- the parts that the segment then has
      abbrev z : Parts M S B U
      z = record { model = x.model; processes = with_items x.processes all long; letters = c.letters; collected = x.collected; starts = x.starts; initial = x.initial }

      each : (q : ℕ) → q < length x.processes.items → slice_get all q ≡ process_of q
      each q within =
          let e : q + 0 ≡ q = omega arith in
          relisted-at process_of 0 x.processes.items q within
          (λ none. there_after laws ranges whole ready all_took one_of q within (sym (from_hands_after laws ranges whole ready all_took (map (λ w. w.processes) ws') one_of q plan.workers refl refl) ∙ ap process_of (sym e) ∙ none))
          ∙ ap process_of e

      by_number : (q : ℕ) → slice_get all q ≡ slice_get (get_or ws' (q % plan.workers) one_of).processes (q / plan.workers)
      by_number = joined laws ranges whole ready all_took all (map (λ w. w.processes) ws') one_of plan.workers refl refl long each

      made : Round model order plan x z floor
      made =
          let got = ended.gathered in
          let left = got.letters.left in
          record {
            first = λ i. get_or ws i one_of;
            last = λ i. get_or ws' i one_of;
            left = left;
            begins = λ i below. begins_at laws ranges whole ready i one_of below;
            works = λ i below. all_took.went i one_of one_of (subst (λ n. i < n) (sym ready.many) below);
            settled = settled laws ranges whole ready all_took (map (λ w. w.port) ws') left one_of refl (λ i k li lk. got.letters.settled i k (there i li) (there k lk));
            floor_is = floor_after laws ranges whole ready all_took floor one_of got.floor_is;
            model_is = refl;
            starts_are = refl;
            initial_are = refl;
            collected_is = refl;
            processes_are = by_number;
            letters_are = λ h.
                let kept = weigh h (flatten (map (λ w. w.kept) ws')) in
                let aside = weigh h (flatten (map (λ w. w.aside) ws')) in
                got.letters.letters_are h
                ∙ add_assoc (sum_below (length ws') (λ i. sum_below (length ws') (λ k. weigh h (left i k)))) kept aside
                ∙ ap (λ n. sum_below n (λ i. sum_below n (λ k. weigh h (left i k))) + (kept + aside)) as_before
                ∙ ap (λ w. sum_below plan.workers (λ i. sum_below plan.workers (λ k. weigh h (left i k))) + w) (kept_after laws ranges whole ready all_took h (map (λ w. w.kept) ws') (map (λ w. w.aside) ws') one_of refl refl);
          }

      rest_is : c.rest ≡ b.rest
      rest_is = ended.rest_is ∙ begun.rest_is

      stands_after : IsBetween plan.workers z c
      stands_after =
          let got = ended.gathered in
          record {
            model_is = ended.model_is ∙ its_model;
            many = sym (length-map c.shares.items (λ h. h.items)) ∙ (ap length got.shares_are ∙ (length-map ws' (λ w. w.processes) ∙ as_before));
            dealt = λ i place below.
                let at = number_place plan.workers i place below in
                ap (λ hs. slice_get (get_or hs i []) place) got.shares_are
                ∙ ap (λ h. slice_get h place) (get_or-map (λ w. w.processes) ws' i one_of [] (there i below))
                ∙ ap (slice_get (get_or ws' i one_of).processes) (sym at.0)
                ∙ ap (λ j. slice_get (get_or ws' j one_of).processes ((i + place * plan.workers) / plan.workers)) (sym at.1)
                ∙ sym (by_number (i + place * plan.workers));
            letters_are = refl;
            count_is = ap (λ (r : Rest M S B U). r.count) rest_is ∙ (stands.count_is ∙ sym long);
            collected_is = ap (λ (r : Rest M S B U). r.collected) rest_is ∙ stands.collected_is;
            starts_are = ap (λ (r : Rest M S B U). r.starts) rest_is ∙ stands.starts_are;
            initial_are = ap (λ (r : Rest M S B U). r.initial) rest_is ∙ stands.initial_are;
          }

      pub round_made : RoundTo model order plan x c floor
      round_made = record { after = z; round = made; stands = stands_after }

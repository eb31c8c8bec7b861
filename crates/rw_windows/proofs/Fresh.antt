-- Workers that have done nothing yet can begin.
use Rattle.std.proofs.Common.{◌≡◌, ◌≢◌, ℕ, zero, suc, ◌+◌, ◌*◌, ◌-◌, ◌^◌, ◌<◌, ◌≤◌, min, true, cond, Some, None, List, [], ◌∷◌, ◌++◌, map, length, get_or, replicate, filter, All, IsPermutation, refl, sym, ap, ◌∙◌, subst, arith, append-nil, inl, inr}
use Rattle.std.specs.Prelude.{◌%◌, ◌==◌, slice_get}
use Rattle.std.specs.declared.cmp.Ordering.{Ordering}
use Rattle.std.proofs.lemmas.Bool.{cases_eq, eqb-true, lt-ltb}
use Rattle.std.proofs.lemmas.List.{get_or-map, get_or-replicate, length-replicate}
use Rattle.std.proofs.lemmas.List.Elements.{All-nil, All-filter, All-weaker, filter_passes}
use Rattle.std.proofs.lemmas.List.Sorted.{All-permutation}
use Rattle.std.proofs.lemmas.Iterator.Adapters.{option_map_id}
use Rattle.rw_vt.specs.declared.event.Event.{Event}
use Rattle.rw_vt.specs.declared.model.Model.{Ghosts}
use Rattle.rw_vt.specs.Order.{copies, one_if_same}
use Rattle.rw_vt.specs.System.{IsReady, flatten, rules, system}
use Rattle.rw_vt.specs.Partway.{IsPartway}
use Rattle.rw_vt.proofs.Laws.{Laws, lawful}
use Rattle.rw_vt.proofs.Partway.{part_begins}
use Rattle.rw_exchange.specs.Ports.{PortState, HaveFirst, IsOpening, IsOther, IsWide, NoneItself, StayAnOpening, items_of, received_between, received_from, sent_between, sent_to}
use Rattle.rw_windows.specs.declared.running.Windows.{Windows}
use Rattle.rw_windows.specs.Batches.{BatchState, batch_events, events_in, last_bound}
use Rattle.rw_windows.specs.Beginning.{first_batch, first_batch_to, HasNotBegun}
use Rattle.rw_windows.specs.Running.{AreBegun}
use Rattle.rw_windows.specs.Working.{ShareState, CanBegin, HasDone, IsAhead, IsInTime, IsSeated}
use Rattle.rw_windows.proofs.Sums.{weigh_permuted}

-- empty lists
nothing_at : {X : Type 0} (n v : ℕ) → get_or (replicate {A = List X} n []) v [] ≡ []
nothing_at zero v = refl
nothing_at (suc n) zero = refl
nothing_at (suc n) (suc v) = nothing_at n v

none_joined : {X : Type 0} (n : ℕ) → flatten (replicate {A = List X} n []) ≡ []
none_joined zero = refl
none_joined (suc n) = none_joined n

-- lists of batches without events have none together
no_events : {M B : Type 0} (lists : List (List (BatchState M B))) → ((v : ℕ) → v < length lists → batch_events (get_or lists v []) ≡ []) → events_in lists ≡ []
no_events [] none = refl
no_events (bs ∷ lists) none = ap (λ l. l ++ events_in lists) (none 0 (omega arith)) ∙ no_events lists (λ v within. none (suc v) (omega arith))

-- the port of worker i of n, through which the first batches went
pub record HasFirst {M B : Type 0} (m : M) (n bound i : ℕ) (p : PortState (BatchState M B)) : Type 0 where
  pub worker : p.worker ≡ i
  pub wide : IsWide n p
  pub sent : (v : ℕ) → v < n → v ≢ i → sent_to p v ≡ first_batch_to m n bound v ∷ []
  pub received : (v : ℕ) → v < n → v ≢ i → received_from p v ≡ first_batch_to m n bound i ∷ []
  pub none_sent : sent_to p i ≡ []
  pub none_received : received_from p i ≡ []

module _ {M B : Type 0} (m : M) (n bound i : ℕ) (p : PortState (BatchState M B)) (known : HasFirst m n bound i p) where
  no_events_sent : events_in p.sent ≡ []
  no_events_sent = no_events p.sent each
    where
      each : (v : ℕ) → v < length p.sent → batch_events (sent_to p v) ≡ []
      each v within = elim (cases_eq v i) [
        | inl own ↦ ap (λ k. batch_events (sent_to p k)) own ∙ ap batch_events known.none_sent
        | inr other ↦ ap batch_events (known.sent v (omega (arith, known.wide.2)) other)
      ]

  no_events_received : events_in p.received ≡ []
  no_events_received = no_events p.received each
    where
      each : (v : ℕ) → v < length p.received → batch_events (received_from p v) ≡ []
      each v within = elim (cases_eq v i) [
        | inl own ↦ ap (λ k. batch_events (received_from p k)) own ∙ ap batch_events known.none_received
        | inr other ↦ ap batch_events (known.received v (omega (arith, known.wide.3)) other)
      ]

  within : (v : ℕ) → IsOther p v → v < n
  within v other = omega (arith, other.0, known.wide.0)

  not_own : (v : ℕ) → IsOther p v → v ≢ i
  not_own v other e = other.1 (e ∙ sym known.worker)

abbrev shown : {M S B : Type 0} → Windows → ℕ → ShareState M S B → ShareState M S B
shown t bound x = record x { workers = t.workers; end = t.end; lookahead = t.lookahead; reached = 0; outbox = replicate t.workers []; until = 0; bound_in = bound; bound_out = bound }

module _ {M S B U : Type 0} {model : Ghosts M S B U} {order : B → B → Ordering} (laws : Laws model order) (m : M) (t : Windows) (bound : ℕ) (starts : List S) (events : List (Event B))
    (ready : IsReady model m starts events) (ahead : IsAhead model m t.lookahead) (least : All (λ e. bound ≤ e.time + t.lookahead) events) (some : 0 < bound)
    (x : ShareState M S B) (inside : x.number < t.workers) (given : x.given ≡ filter (λ e. e.to % t.workers == x.number) events) (waiting : IsPermutation x.given x.waiting)
    (states : (k : ℕ) → slice_get x.states k ≡ slice_get starts (x.number + k * t.workers)) (port : HasFirst m t.workers bound x.number x.port) where
  abbrev fresh : ShareState M S B
  fresh = record (shown t bound x) { starts = starts }

  initial_is : x.given ++ events_in x.port.received ≡ x.given
  initial_is = ap (λ l. x.given ++ l) (no_events_received m t.workers bound x.number x.port port) ∙ append-nil x.given

  -- what holds of all events holds of those that it was dealt, and of those that wait
  of_given : (P : Event B → Type 0) → All P events → All P x.given
  of_given P all = subst (All P) (sym given) (All-filter (λ e. e.to % t.workers == x.number) P events all)

  ready_here : IsReady model m starts (x.given ++ events_in x.port.received)
  ready_here = record {
    enough = ready.enough;
    well_formed = ready.well_formed;
    valid = subst (All (λ e. model.is_valid m e ≡ true)) (sym initial_is) (of_given (λ e. model.is_valid m e ≡ true) ready.valid);
  }

  seated : IsSeated model m fresh
  seated = record {
    ready = ready_here;
    ahead = ahead;
    number = inside;
    port = port.worker;
    wide = port.wide;
    lists = length-replicate t.workers [];
    sends = λ v other. (
      first_batch_to m t.workers bound v,
      [],
      port.sent v (within m t.workers bound x.number x.port port v other) (not_own m t.workers bound x.number x.port port v other),
      record { model = refl; workers = refl; to = refl },
    );
    hears = λ v other. (
      first_batch_to m t.workers bound x.number,
      [],
      port.received v (within m t.workers bound x.number x.port port v other) (not_own m t.workers bound x.number x.port port v other),
      record { model = refl; workers = refl; to = refl },
    );
  }

  out_none : events_in x.port.sent ++ flatten (replicate t.workers []) ≡ []
  out_none = ap (λ l. l ++ flatten (replicate t.workers [])) (no_events_sent m t.workers bound x.number x.port port) ∙ none_joined t.workers

  partway : IsPartway (system model order m starts (x.given ++ events_in x.port.received)) (λ _. []) x.waiting (events_in x.port.sent ++ flatten (replicate t.workers []))
  partway =
      let y = system model order m starts (x.given ++ events_in x.port.received) in
      subst (λ out. IsPartway (system model order m starts (x.given ++ events_in x.port.received)) (λ _. []) x.waiting out) (sym out_none)
      (part_begins y (lawful laws m starts (x.given ++ events_in x.port.received) ready_here) x.waiting
      (λ e. weigh_permuted (one_if_same y.rules.order e) x.given x.waiting waiting ∙ ap (copies y.rules.order e) (sym initial_is)))

  done : HasDone (rules model order m) fresh
  done = record {
    journal = λ _. [];
    partway = partway;
    own = λ q other. refl;
    ours = All-permutation (λ a. a.to % t.workers ≡ x.number) x.given x.waiting waiting (subst (All (λ a. a.to % t.workers ≡ x.number)) (sym given)
        (All-weaker (λ a. (a.to % t.workers == x.number) ≡ true) (λ a. a.to % t.workers ≡ x.number) (λ a h. eqb-true (a.to % t.workers) x.number h) (filter (λ e. e.to % t.workers == x.number) events) (filter_passes (λ e. e.to % t.workers == x.number) events)));
    theirs = λ v other. subst (All (λ a. (a.to % t.workers ≡ v) × (model.is_valid m a ≡ true))) (sym (nothing_at t.workers v)) (All-nil (λ a. (a.to % t.workers ≡ v) × (model.is_valid m a ≡ true)));
    none = nothing_at t.workers x.number;
    states_are = λ k. states k ∙ sym (option_map_id (slice_get starts (x.number + k * t.workers)));
    before = λ q a h. absurd (omega arith);
  }

  times : IsInTime fresh
  times = record {
    until = (omega arith, omega arith, omega arith);
    reached = some;
    bound_in = λ v other. let e = ap last_bound (port.received v (within m t.workers bound x.number x.port port v other) (not_own m t.workers bound x.number x.port port v other)) in omega arith;
    told = λ v other. let e = ap last_bound (port.sent v (within m t.workers bound x.number x.port port v other) (not_own m t.workers bound x.number x.port port v other)) in omega arith;
    far = All-permutation (λ a. bound ≤ a.time + t.lookahead) x.given x.waiting waiting (of_given (λ a. bound ≤ a.time + t.lookahead) least);
    hears = omega arith;
    outbox = λ v other. subst (All (λ a. (0 ≤ a.time) × (last_bound (sent_to x.port v) ≤ a.time))) (sym (nothing_at t.workers v)) (All-nil (λ a. (0 ≤ a.time) × (last_bound (sent_to x.port v) ≤ a.time)));
  }

  fresh_begins : CanBegin model order m fresh
  fresh_begins = (record { seated = seated; done = done; times = times }, λ v. nothing_at t.workers v)

  new_begins : HasNotBegun t bound x → x.starts ≡ starts → CanBegin model order m x
  new_begins new starts_are = subst (CanBegin model order m) (sym (new.is ∙ ap (λ l. record (shown t bound x) { starts = l }) starts_are)) fresh_begins

-- the first batch is there
first_sent_by : {M B : Type 0} (m : M) (n bound from to : ℕ) → to < n → items_of (first_batch {B = B} m n bound from to) ≡ first_batch_to m n bound to ∷ []
first_sent_by m n bound from to within = ap (λ b. items_of (cond b (Some (first_batch_to m n bound to)) None)) (lt-ltb to n within)

-- one port of an opening that greets
module _ {M B : Type 0} (m : M) (n bound : ℕ) (ps : List (PortState (BatchState M B))) (long : length ps ≡ n) (opening : IsOpening ps) (first_sent : HaveFirst n (first_batch m n bound) ps) (own : NoneItself n ps)
    (i : ℕ) (inside : i < n) (p : PortState (BatchState M B)) (is : get_or ps i p ≡ p) where
  there : i < length ps
  there = omega (arith, long)

  sent_is : (v : ℕ) → sent_to p v ≡ sent_between ps i v
  sent_is v = ap (λ q. sent_to q v) (sym is) ∙ ap (λ l. get_or l v []) (sym (get_or-map (λ q. q.sent) ps i p [] there))

  received_is : (v : ℕ) → received_from p v ≡ received_between ps v i
  received_is v = ap (λ q. received_from q v) (sym is) ∙ ap (λ l. get_or l v []) (sym (get_or-map (λ q. q.received) ps i p [] there))

  port_first_sent : HasFirst m n bound i p
  port_first_sent = record {
    worker = ap (λ q. q.worker) (sym is) ∙ opening.numbered i p there;
    wide = subst (λ k. IsWide k p) long (subst (IsWide (length ps)) is (opening.wide i p there));
    sent = λ v below other. sent_is v ∙ (first_sent i v inside below (λ e. other (sym e))).0 ∙ first_sent_by m n bound i v below;
    received = λ v below other. received_is v ∙ (first_sent v i below inside other).1 ∙ first_sent_by m n bound v i inside;
    none_sent = sent_is i ∙ (own i inside).0;
    none_received = received_is i ∙ (own i inside).1;
  }

-- all workers, with their shares
module _ {M S B U : Type 0} {model : Ghosts M S B U} {order : B → B → Ordering} (laws : Laws model order) (m : M) (t : Windows) (bound : ℕ) (starts : List S) (events : List (Event B))
    (ready : IsReady model m starts events) (ahead : IsAhead model m t.lookahead) (least : All (λ e. bound ≤ e.time + t.lookahead) events) (some : 0 < bound)
    (shares : List (List S)) (dealt : (i place : ℕ) → i < t.workers → slice_get (get_or shares i []) place ≡ slice_get starts (i + place * t.workers))
    (inboxes : List (List (Event B))) (sorted_out : (i : ℕ) → i < t.workers → get_or inboxes i [] ≡ filter (λ e. e.to % t.workers == i) events)
    (ps : List (PortState (BatchState M B))) (long : length ps ≡ t.workers) (opening : IsOpening ps) (stays : StayAnOpening ps) (first_sent : HaveFirst t.workers (first_batch m t.workers bound) ps) (own : NoneItself t.workers ps)
    (ws : List (ShareState M S B)) (count : length ws ≡ t.workers) (numbers : (i : ℕ) (d : ShareState M S B) → i < t.workers → (get_or ws i d).number ≡ i)
    (their_states : map (λ w. w.states) ws ≡ shares) (their_given : map (λ w. w.given) ws ≡ inboxes) (their_ports : map (λ w. w.port) ws ≡ ps) (their_starts : map (λ w. w.starts) ws ≡ replicate t.workers starts)
    (new : All (HasNotBegun t bound) ws) where
  given_is : (i : ℕ) (d : ShareState M S B) → i < t.workers → (get_or ws i d).given ≡ filter (λ e. e.to % t.workers == i) events
  given_is i d inside = sym (get_or-map (λ w. w.given) ws i d [] (omega (arith, count))) ∙ ap (λ l. get_or l i []) their_given ∙ sorted_out i inside

  starts_are : (i : ℕ) (d : ShareState M S B) → i < t.workers → (get_or ws i d).starts ≡ starts
  starts_are i d inside = sym (get_or-map (λ w. w.starts) ws i d [] (omega (arith, count))) ∙ ap (λ l. get_or l i []) their_starts ∙ get_or-replicate t.workers i starts [] inside

  port_of : (i : ℕ) (d : ShareState M S B) → i < t.workers → HasFirst m t.workers bound i (get_or ws i d).port
  port_of i d inside =
      port_first_sent m t.workers bound ps long opening first_sent own i inside (get_or ws i d).port
      (ap (λ l. get_or l i (get_or ws i d).port) (sym their_ports)
      ∙ get_or-map (λ w. w.port) ws i d (get_or ws i d).port (omega (arith, count)))

  begins_at : (i : ℕ) (d : ShareState M S B) → i < length ws → CanBegin model order m (get_or ws i d)
  begins_at i d within =
      let inside : i < t.workers = omega (arith, count) in
      let x : ShareState M S B = get_or ws i d in
      let number : i ≡ x.number = sym (numbers i d inside) in
      let fresh : HasNotBegun t bound x = new i d within in
      new_begins laws m t bound starts events ready ahead least some x (omega (arith, number))
      (given_is i d inside ∙ ap (λ j. filter (λ e. e.to % t.workers == j) events) number)
      fresh.waiting
      (λ k. ap (λ l. slice_get l k) (sym (get_or-map (λ w. w.states) ws i d [] within) ∙ ap (λ l. get_or l i []) their_states) ∙ dealt i k inside ∙ ap (λ j. slice_get starts (j + k * t.workers)) number)
      (subst (λ j. HasFirst m t.workers bound j x.port) number (port_of i d inside))
      fresh (starts_are i d inside)

  terms_at : (i : ℕ) (d : ShareState M S B) → i < length ws → ((get_or ws i d).workers ≡ t.workers) × ((get_or ws i d).end ≡ t.end) × ((get_or ws i d).starts ≡ starts)
  terms_at i d within =
      let fresh : HasNotBegun t bound (get_or ws i d) = new i d within in
      (ap (λ w. w.workers) fresh.is, ap (λ w. w.end) fresh.is, starts_are i d (omega (arith, count)))

  pub all_begun : AreBegun model order m t.workers t.end starts events ws
  all_begun = record {
    many = count;
    can_begin = begins_at;
    numbers = numbers;
    terms = terms_at;
    given = given_is;
    opening = subst IsOpening (sym their_ports) opening;
    stays = subst StayAnOpening (sym their_ports) stays;
  }

-- the first time that nothing is sent before
pub first_bound : {B : Type 0} (events : List (Event B)) (least lookahead bound : ℕ) → All (λ e. least ≤ e.time) events → bound ≡ min (least + lookahead) (2 ^ 64 - 1) → All (λ e. bound ≤ e.time + lookahead) events
first_bound events least lookahead bound all is = All-weaker (λ e. least ≤ e.time) (λ e. bound ≤ e.time + lookahead) (λ e h. omega (arith, is)) events all

pub some_bound : (least lookahead bound : ℕ) → 1 ≤ lookahead → bound ≡ min (least + lookahead) (2 ^ 64 - 1) → 0 < bound
some_bound least lookahead bound some is = omega (arith, is)

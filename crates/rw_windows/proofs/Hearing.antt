-- What a worker hears of another, and that it can work on then.
use Prim.Native.Nat.{min, max}
use Rattle.std.proofs.Common.{◌≡◌, ◌≢◌, ℕ, ◌+◌, ◌<◌, ◌≤◌, ◌%◌, true, List, [], ◌∷◌, ◌++◌, length, sym, ◌∙◌, ap, subst, arith, inl, inr, IsPermutation}
use Rattle.std.proofs.lemmas.Bool.{cases_eq}
use Rattle.std.proofs.lemmas.List.{get_or-set_same, get_or-set_other, length-set}
use Rattle.std.proofs.lemmas.List.Elements.{All-append, All-weaker}
use Rattle.std.proofs.lemmas.List.Sorted.{All-permutation}
use Rattle.std.specs.declared.cmp.Ordering.{Ordering}
use Rattle.std.specs.List.{All}
use Rattle.std.specs.Prelude.{slice_get, IfSome}
use Rattle.rw_vt.specs.declared.event.Event.{Event}
use Rattle.rw_vt.specs.declared.model.Model.{Ghosts}
use Rattle.rw_vt.specs.Order.{AtMost, Has, copies, one_if_same}
use Rattle.rw_vt.specs.Partway.{IsPartway}
use Rattle.rw_vt.specs.System.{IsReady, flatten, rules, system}
use Rattle.rw_vt.proofs.Sorting.{copies-append, each_of_all}
use Rattle.rw_vt.proofs.Laws.{Laws, lawful, rules_lawful}
use Rattle.rw_vt.proofs.Partway.{part_more}
use Rattle.rw_vt.proofs.Runs.{earlier_at_most}
use Rattle.rw_exchange.specs.Ports.{SamePort, IsOther, PortState, after_receiving, received_from}
use Rattle.rw_windows.specs.Batches.{BatchState, BeginFor, IsFor, MayFollow, events_in, last_bound}
use Rattle.rw_windows.specs.Working.{ShareState, IsAtWork, IsSeated, HasDone, IsInTime}
use Rattle.rw_windows.proofs.Batched.{begin_still, bound_behind, weigh_with}
use Rattle.rw_windows.proofs.Joined.{part_same_initial}
use Rattle.rw_windows.proofs.Sums.{all_of_each, weigh_permuted}
use Rattle.rw_windows.proofs.Workers.{at_times}

module _ {M S B U : Type 0} {model : Ghosts M S B U} {order : B → B → Ordering} (laws : Laws model order) (m : M) (x : ShareState M S B) (work : IsAtWork model order m x)
    (from : ℕ) (other : IsOther x.port from) (b : BatchState M B) (allowed : MayFollow model (received_from x.port from) b) where
  -- the batch is for this worker
  for_it : IsFor m x.workers x.number b
  for_it = go (work.seated.hears from other) allowed.terms
    where
      go : BeginFor m x.workers x.number (received_from x.port from) → IfSome (slice_get (received_from x.port from) 0) (λ a. IsFor a.model a.workers a.to b) → IsFor m x.workers x.number b
      go h t = of_first (subst (λ l. IfSome (slice_get l 0) (λ a. IsFor a.model a.workers a.to b)) h.2 t)
        where
          of_first : IsFor h.0.model h.0.workers h.0.to b → IsFor m x.workers x.number b
          of_first k = record { model = k.model ∙ h.3.model; workers = k.workers ∙ h.3.workers; to = k.to ∙ h.3.to }

  -- none of it is before what was heard
  bound_in_before : All (λ e. x.bound_in ≤ e.time) b.events
  bound_in_before = All-weaker (λ e. last_bound (received_from x.port from) ≤ e.time) (λ e. x.bound_in ≤ e.time) (λ e h. let k = work.times.bound_in from other in omega (arith, h, k)) b.events allowed.in_time

  -- nor before the time that is reached
  pub reached_before : All (λ e. x.reached < e.time) b.events
  reached_before = All-weaker (λ e. x.bound_in ≤ e.time) (λ e. x.reached < e.time) (λ e h. omega (arith, h, work.times.reached)) b.events bound_in_before

  valid_here : All (λ e. model.is_valid m e ≡ true) b.events
  valid_here = All-weaker (λ e. model.is_valid b.model e ≡ true) (λ e. model.is_valid m e ≡ true) (λ e h. subst (λ w. model.is_valid w e ≡ true) for_it.model h) b.events allowed.valid

  module _ (waiting : List (Event B)) (joined : IsPermutation (x.waiting ++ b.events) waiting) where
    -- the worker, once it has heard that
    abbrev receiving : ShareState M S B
    receiving = record x { port = after_receiving x.port from b; waiting = waiting }

    abbrev came : List (Event B)
    came = x.given ++ events_in x.port.received

    abbrev come : List (Event B)
    come = x.given ++ events_in receiving.port.received

    in_received : from < length x.port.received
    in_received = omega (arith, work.seated.wide.0, work.seated.wide.3, other.0)

    received_here : received_from receiving.port from ≡ received_from x.port from ++ b ∷ []
    received_here = get_or-set_same x.port.received from (received_from x.port from ++ b ∷ []) [] in_received

    received_there : (v : ℕ) → v ≢ from → received_from receiving.port v ≡ received_from x.port v
    received_there v ne = get_or-set_other x.port.received from v (received_from x.port from ++ b ∷ []) [] ne

    bound_here : last_bound (received_from receiving.port from) ≡ b.bound
    bound_here = ap last_bound received_here ∙ bound_behind (received_from x.port from) b

    come_counts : (e : Event B) → copies (rules model order m).order e come ≡ copies (rules model order m).order e (came ++ b.events)
    come_counts e =
        let o = (rules_lawful laws m).exact in
        copies-append o e x.given (events_in receiving.port.received)
        ∙ omega (arith, weigh_with (one_if_same (rules model order m).order e) x.port.received from b in_received, copies-append o e came b.events, copies-append o e x.given (events_in x.port.received))

    each_valid : (a : Event B) → Has (rules model order m).order come a → model.is_valid m a ≡ true
    each_valid a h =
        let o = (rules_lawful laws m).exact in
        each_of_all o (λ e. model.is_valid m e ≡ true) (came ++ b.events) (All-append (λ e. model.is_valid m e ≡ true) came b.events work.seated.ready.valid valid_here) a (omega (arith, come_counts a, h))

    ready : IsReady model m x.starts come
    ready = record {
      enough = work.seated.ready.enough;
      well_formed = work.seated.ready.well_formed;
      valid = all_of_each (rules_lawful laws m).exact (λ e. model.is_valid m e ≡ true) come each_valid;
    }

    hears : (v : ℕ) → IsOther x.port v → BeginFor m x.workers x.number (received_from receiving.port v)
    hears v o = elim (cases_eq v from) [
      | inl e ↦ subst (BeginFor m x.workers x.number) (sym (ap (received_from receiving.port) e ∙ received_here)) (begin_still m x.workers x.number (received_from x.port from) b (work.seated.hears from other))
      | inr ne ↦ subst (BeginFor m x.workers x.number) (sym (received_there v ne)) (work.seated.hears v o)
    ]

    receiving_seated : IsSeated model m receiving
    receiving_seated = record {
      ready = ready;
      ahead = work.seated.ahead;
      number = work.seated.number;
      port = work.seated.port;
      wide = (work.seated.wide.0, work.seated.wide.1, work.seated.wide.2, length-set x.port.received from (received_from x.port from ++ b ∷ []) ∙ work.seated.wide.3);
      lists = work.seated.lists;
      sends = work.seated.sends;
      hears = hears;
    }

    after_done : (q : ℕ) (a e : Event B) → Has (rules model order m).order (work.done.journal q) a → Has (rules model order m).order b.events e → AtMost (rules model order m).order a e
    after_done q a e h k =
        let law = rules_lawful laws m in
        let early = work.done.before q a h in
        let late = each_of_all law.exact (λ z. x.bound_in ≤ z.time) b.events bound_in_before e k in
        earlier_at_most law a e (omega (arith, early, late, work.times.until.0))

    partway : IsPartway (system model order m x.starts come) work.done.journal waiting (events_in x.port.sent ++ flatten x.outbox)
    partway =
        let o = (rules_lawful laws m).exact in
        part_same_initial (system model order m x.starts (came ++ b.events)) (came ++ b.events) come
        (part_more (system model order m x.starts came) (lawful laws m x.starts came work.seated.ready) work.done.journal x.waiting (events_in x.port.sent ++ flatten x.outbox) b.events waiting work.done.partway
        (λ e. weigh_permuted (one_if_same (rules model order m).order e) (x.waiting ++ b.events) waiting joined ∙ copies-append o e x.waiting b.events)
        (each_of_all o (λ e. model.is_valid m e ≡ true) b.events valid_here) after_done)
        (λ e. sym (come_counts e))

    ours : All (λ a. a.to % x.workers ≡ x.number) waiting
    ours = All-permutation (λ a. a.to % x.workers ≡ x.number) (x.waiting ++ b.events) waiting joined
        (All-append (λ a. a.to % x.workers ≡ x.number) x.waiting b.events work.done.ours
        (All-weaker (λ e. e.to % b.workers ≡ b.to) (λ a. a.to % x.workers ≡ x.number) (λ a h. sym (ap (λ n. a.to % n) for_it.workers) ∙ h ∙ for_it.to) b.events allowed.theirs))

    receiving_done : HasDone (rules model order m) receiving
    receiving_done = record {
      journal = work.done.journal;
      partway = partway;
      own = work.done.own;
      ours = ours;
      theirs = work.done.theirs;
      none = work.done.none;
      states_are = work.done.states_are;
      before = work.done.before;
    }

    bound_in : (v : ℕ) → IsOther x.port v → x.bound_in ≤ last_bound (received_from receiving.port v)
    bound_in v o = elim (cases_eq v from) [
      | inl e ↦ let here = ap (λ w. last_bound (received_from receiving.port w)) e ∙ bound_here in let was = work.times.bound_in from other in omega (arith, here, was, allowed.further)
      | inr ne ↦ subst (λ l. x.bound_in ≤ last_bound l) (sym (received_there v ne)) (work.times.bound_in v o)
    ]

    far : All (λ a. x.bound_out ≤ a.time + x.lookahead) waiting
    far = All-permutation (λ a. x.bound_out ≤ a.time + x.lookahead) (x.waiting ++ b.events) waiting joined
        (All-append (λ a. x.bound_out ≤ a.time + x.lookahead) x.waiting b.events work.times.far
        (All-weaker (λ e. x.bound_in ≤ e.time) (λ a. x.bound_out ≤ a.time + x.lookahead) (λ a h. omega (arith, h, work.times.hears)) b.events bound_in_before))

    receiving_times : IsInTime receiving
    receiving_times = record {
      until = work.times.until;
      reached = work.times.reached;
      bound_in = bound_in;
      told = work.times.told;
      far = far;
      hears = work.times.hears;
      outbox = work.times.outbox;
    }

    receiving_at_work : IsAtWork model order m receiving
    receiving_at_work = record { seated = receiving_seated; done = receiving_done; times = receiving_times }

    -- with the port and the time that is reached as given
    pub receiving_with : (port : PortState (BatchState M B)) (reached : ℕ) → port ≡ after_receiving x.port from b → reached ≡ x.reached
        → IsAtWork model order m (record x { port = port; waiting = waiting; reached = reached })
    receiving_with port reached p r =
        subst (λ q. IsAtWork model order m (record x { port = q; waiting = waiting; reached = reached })) (sym p)
        (subst (λ t. IsAtWork model order m (record receiving { reached = t })) (sym r) receiving_at_work)

    -- the reach of the batch is the last one of its worker
    pub bound_with : (port : PortState (BatchState M B)) → port ≡ after_receiving x.port from b → b.bound ≤ last_bound (received_from port from)
    bound_with port p = let r = ap (λ q. last_bound (received_from q from)) p ∙ bound_here in omega (arith, r)

    pub others_with : (port : PortState (BatchState M B)) → port ≡ after_receiving x.port from b → (v : ℕ) → v ≢ from → received_from port v ≡ received_from x.port v
    others_with port p v ne = ap (λ q. received_from q v) p ∙ received_there v ne

-- a worker at work that hears of nothing more before a later time
receiving_further : {M S B U : Type 0} {model : Ghosts M S B U} {order : B → B → Ordering} (m : M) (x : ShareState M S B) → IsAtWork model order m x
    → (t : ℕ) → x.bound_in ≤ t → ((v : ℕ) → IsOther x.port v → t ≤ last_bound (received_from x.port v)) → IsAtWork model order m (record x { bound_in = t })
receiving_further m x work t more bound_in =
    at_times m x work x.until t x.bound_out (omega arith) (record {
      until = (omega (arith, work.times.until.0, more), work.times.until.1, work.times.until.2);
      reached = omega (arith, work.times.reached, more);
      bound_in = bound_in;
      told = work.times.told;
      far = work.times.far;
      hears = omega (arith, work.times.hears, more);
      outbox = work.times.outbox;
    })

module _ {M S B : Type 0} where
  -- of each other worker that stands before the next one, no event of a later batch is before t
  abbrev pub HeardOf : ShareState M S B → ℕ → ℕ → Type 0
  HeardOf x t next = (v : ℕ) → v < next → IsOther x.port v → t ≤ last_bound (received_from x.port v)

  pub bound_in_own : (x : ShareState M S B) (t next : ℕ) → HeardOf x t next → next ≡ x.port.worker → HeardOf x t (next + 1)
  bound_in_own x t next before own v h o = before v (below (λ e. o.1 (e ∙ own))) o
    where
      below : v ≢ next → v < next
      below ne = omega (arith, h, ne)

  pub bound_in_next : (x y : ShareState M S B) (t next bound s : ℕ) → HeardOf x t next → SamePort x.port y.port → ((v : ℕ) → v ≢ next → received_from y.port v ≡ received_from x.port v)
      → bound ≤ last_bound (received_from y.port next) → s ≡ min t bound → HeardOf y s (next + 1)
  bound_in_next x y t next bound s before same others here s_is v h o = elim (cases_eq v next) [
    | inl e ↦ let r = ap (λ w. last_bound (received_from y.port w)) e in omega (arith, r, here, s_is)
    | inr ne ↦ let r = ap last_bound (others v ne) in let b = before v (below ne) (was o) in omega (arith, r, b, s_is)
  ]
    where
      below : v ≢ next → v < next
      below ne = omega (arith, h, ne)

      was : IsOther y.port v → IsOther x.port v
      was k = (subst (λ l. v < length l) same.out k.0, λ e. k.1 (e ∙ sym same.worker))

-- what it has heard once it has heard of all others
pub next_receiving : {M S B U : Type 0} {model : Ghosts M S B U} {order : B → B → Ordering} (m : M) (x : ShareState M S B) → IsAtWork model order m x
    → (h t next : ℕ) → x.workers ≤ next → HeardOf x h next → t ≡ max x.bound_in h → IsAtWork model order m (record x { bound_in = t })
next_receiving m x work h t next all before t_is =
    receiving_further m x work t (omega (arith, t_is))
    (λ v o.
    let b = before v (omega (arith, o.0, all, work.seated.wide.0)) o in
    let was = work.times.bound_in v o in
    omega (arith, t_is, b, was))

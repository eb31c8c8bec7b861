-- What a worker tells another, and that it can work on then.
use Rattle.std.proofs.Common.{◌≡◌, ◌≢◌, ℕ, ◌<◌, ◌≤◌, ◌%◌, true, List, [], ◌∷◌, ◌++◌, length, map, refl, sym, ◌∙◌, ap, subst, arith, inl, inr, get_or, set}
use Rattle.std.proofs.lemmas.Bool.{cases_eq}
use Rattle.std.proofs.lemmas.List.{get_or-set_same, get_or-set_other, length-set, map-set, set-set, set-get_or, get_or-map, length-map}
use Rattle.std.proofs.lemmas.List.Elements.{All-nil, All-weaker}
use Rattle.std.specs.declared.cmp.Ordering.{Ordering}
use Rattle.std.specs.List.{All}
use Rattle.std.specs.Prelude.{slice_set}
use Rattle.rw_vt.specs.declared.event.Event.{Event}
use Rattle.rw_vt.specs.declared.model.Model.{Ghosts}
use Rattle.rw_vt.specs.Order.{copies, one_if_same}
use Rattle.rw_vt.specs.System.{flatten, rules}
use Rattle.rw_vt.proofs.Sorting.{copies-append}
use Rattle.rw_vt.proofs.Laws.{Laws, rules_lawful}
use Rattle.rw_vt.proofs.Partway.{part_reordered}
use Rattle.rw_exchange.specs.Ports.{IsOther, PortState, after_sending, sent_to}
use Rattle.rw_windows.specs.Batches.{BatchState, BeginFor, IsFor, MayFollow, events_in, last_bound}
use Rattle.rw_windows.specs.Working.{ShareState, IsAtWork, IsSeated, HasDone, IsInTime, outbox_to}
use Rattle.rw_windows.proofs.Batched.{begin_still, follows_terms, bound_behind, weigh_with}
use Rattle.rw_windows.proofs.Sums.{weigh-flatten_set}

-- there is a list for each other worker
pub has_list : {M S B U : Type 0} {model : Ghosts M S B U} {order : B → B → Ordering} {m : M} {x : ShareState M S B} → IsAtWork model order m x → (to : ℕ) → IsOther x.port to → to < length x.outbox
has_list work to other = omega (arith, work.seated.wide.0, work.seated.lists, other.0)

module _ {M S B U : Type 0} {model : Ghosts M S B U} {order : B → B → Ordering} (laws : Laws model order) (m : M) (x : ShareState M S B) (work : IsAtWork model order m x)
    (to : ℕ) (other : IsOther x.port to) (b : BatchState M B) (events : b.events ≡ outbox_to x to) (bound : b.bound ≡ x.bound_out) (terms : IsFor m x.workers to b) where
  -- the batch may follow what was told before
  pub may_send_to : MayFollow model (sent_to x.port to) b
  may_send_to = record {
    valid = subst (All (λ e. model.is_valid b.model e ≡ true)) (sym events)
        (All-weaker (λ e. (e.to % x.workers ≡ to) × (model.is_valid m e ≡ true)) (λ e. model.is_valid b.model e ≡ true) (λ e h. subst (λ w. model.is_valid w e ≡ true) (sym terms.model) h.1) (outbox_to x to) (work.done.theirs to other));
    theirs = subst (All (λ e. e.to % b.workers ≡ b.to)) (sym events)
        (All-weaker (λ e. (e.to % x.workers ≡ to) × (model.is_valid m e ≡ true)) (λ e. e.to % b.workers ≡ b.to) (λ e h. ap (λ n. e.to % n) terms.workers ∙ h.0 ∙ sym terms.to) (outbox_to x to) (work.done.theirs to other));
    in_time = subst (All (λ e. last_bound (sent_to x.port to) ≤ e.time)) (sym events)
        (All-weaker (λ e. (x.until ≤ e.time) × (last_bound (sent_to x.port to) ≤ e.time)) (λ e. last_bound (sent_to x.port to) ≤ e.time) (λ e h. h.1) (outbox_to x to) (work.times.outbox to other));
    further = let t = work.times.told to other in omega (arith, t, bound);
    terms = follows_terms m x.workers to (sent_to x.port to) b (work.seated.sends to other) terms;
  }

  module _ (free : ℕ) where
    -- the worker, once it has told that
    abbrev told : ShareState M S B
    told = record x { port = after_sending x.port to b free; outbox = slice_set x.outbox to [] }

    in_sent : to < length x.port.sent
    in_sent = omega (arith, work.seated.wide.0, work.seated.wide.2, other.0)

    sent_here : sent_to told.port to ≡ sent_to x.port to ++ b ∷ []
    sent_here = get_or-set_same x.port.sent to (sent_to x.port to ++ b ∷ []) [] in_sent

    sent_there : (v : ℕ) → v ≢ to → sent_to told.port v ≡ sent_to x.port v
    sent_there v ne = get_or-set_other x.port.sent to v (sent_to x.port to ++ b ∷ []) [] ne

    outbox_here : outbox_to told to ≡ []
    outbox_here = get_or-set_same x.outbox to [] [] (has_list work to other)

    outbox_there : (v : ℕ) → v ≢ to → outbox_to told v ≡ outbox_to x v
    outbox_there v ne = get_or-set_other x.outbox to v [] [] ne

    not_to : x.number ≢ to
    not_to e = other.1 (sym e ∙ sym work.seated.port)

    sends : (v : ℕ) → IsOther x.port v → BeginFor m x.workers v (sent_to told.port v)
    sends v o = elim (cases_eq v to) [
      | inl e ↦ subst (BeginFor m x.workers v) (sym (ap (sent_to told.port) e ∙ sent_here))
          (begin_still m x.workers v (sent_to x.port to) b (subst (λ w. BeginFor m x.workers v (sent_to x.port w)) e (work.seated.sends v o)))
      | inr ne ↦ subst (BeginFor m x.workers v) (sym (sent_there v ne)) (work.seated.sends v o)
    ]

    told_seated : IsSeated model m told
    told_seated = record {
      ready = work.seated.ready;
      ahead = work.seated.ahead;
      number = work.seated.number;
      port = work.seated.port;
      wide = (work.seated.wide.0, work.seated.wide.1, length-set x.port.sent to (sent_to x.port to ++ b ∷ []) ∙ work.seated.wide.2, work.seated.wide.3);
      lists = length-set x.outbox to [] ∙ work.seated.lists;
      sends = sends;
      hears = work.seated.hears;
    }

    same_out : (e : Event B) → copies (rules model order m).order e (events_in told.port.sent ++ flatten told.outbox) ≡ copies (rules model order m).order e (events_in x.port.sent ++ flatten x.outbox)
    same_out e =
        let o = (rules_lawful laws m).exact in
        copies-append o e (events_in told.port.sent) (flatten told.outbox)
        ∙ omega (
          arith,
          weigh_with (one_if_same (rules model order m).order e) x.port.sent to b in_sent,
          weigh-flatten_set (one_if_same (rules model order m).order e) x.outbox to [] (has_list work to other),
          ap (copies (rules model order m).order e) events,
          copies-append o e (events_in x.port.sent) (flatten x.outbox),
        )

    theirs : (v : ℕ) → IsOther x.port v → All (λ a. (a.to % x.workers ≡ v) × (model.is_valid m a ≡ true)) (outbox_to told v)
    theirs v o = elim (cases_eq v to) [
      | inl e ↦ subst (All (λ a. (a.to % x.workers ≡ v) × (model.is_valid m a ≡ true))) (sym (ap (outbox_to told) e ∙ outbox_here)) (All-nil (λ a. (a.to % x.workers ≡ v) × (model.is_valid m a ≡ true)))
      | inr ne ↦ subst (All (λ a. (a.to % x.workers ≡ v) × (model.is_valid m a ≡ true))) (sym (outbox_there v ne)) (work.done.theirs v o)
    ]

    told_done : HasDone (rules model order m) told
    told_done = record {
      journal = work.done.journal;
      partway = part_reordered work.done.partway (λ e. refl) same_out;
      own = work.done.own;
      ours = work.done.ours;
      theirs = theirs;
      none = outbox_there x.number not_to ∙ work.done.none;
      states_are = work.done.states_are;
      before = work.done.before;
    }

    told_by : (v : ℕ) → IsOther x.port v → last_bound (sent_to told.port v) ≤ x.bound_out
    told_by v o = elim (cases_eq v to) [
      | inl e ↦ let r = ap (λ w. last_bound (sent_to told.port w)) e ∙ ap last_bound sent_here ∙ bound_behind (sent_to x.port to) b ∙ bound in omega (arith, r)
      | inr ne ↦ subst (λ l. last_bound l ≤ x.bound_out) (sym (sent_there v ne)) (work.times.told v o)
    ]

    outbox : (v : ℕ) → IsOther x.port v → All (λ a. (x.until ≤ a.time) × (last_bound (sent_to told.port v) ≤ a.time)) (outbox_to told v)
    outbox v o = elim (cases_eq v to) [
      | inl e ↦ subst (All (λ a. (x.until ≤ a.time) × (last_bound (sent_to told.port v) ≤ a.time))) (sym (ap (outbox_to told) e ∙ outbox_here)) (All-nil (λ a. (x.until ≤ a.time) × (last_bound (sent_to told.port v) ≤ a.time)))
      | inr ne ↦
          subst (λ l. All (λ a. (x.until ≤ a.time) × (last_bound l ≤ a.time)) (outbox_to told v)) (sym (sent_there v ne))
          (subst (All (λ a. (x.until ≤ a.time) × (last_bound (sent_to x.port v) ≤ a.time))) (sym (outbox_there v ne)) (work.times.outbox v o))
    ]

    told_times : IsInTime told
    told_times = record {
      until = work.times.until;
      reached = work.times.reached;
      bound_in = work.times.bound_in;
      told = told_by;
      far = work.times.far;
      hears = work.times.hears;
      outbox = outbox;
    }

    told_at_work : IsAtWork model order m told
    told_at_work = record { seated = told_seated; done = told_done; times = told_times }

    pub told_with : (port : PortState (BatchState M B)) (outbox' : List (List (Event B))) → port ≡ after_sending x.port to b free → outbox' ≡ slice_set x.outbox to []
        → IsAtWork model order m (record x { port = port; outbox = outbox' })
    told_with port outbox' p a =
        subst (λ q. IsAtWork model order m (record x { port = q; outbox = outbox' })) (sym p)
        (subst (λ l. IsAtWork model order m (record x { port = after_sending x.port to b free; outbox = l })) (sym a) told_at_work)

-- a worker at work whose port and lists are as they were
pub kept_with : {M S B U : Type 0} {model : Ghosts M S B U} {order : B → B → Ordering} (m : M) (x : ShareState M S B) → IsAtWork model order m x
    → (port : PortState (BatchState M B)) (outbox : List (List (Event B))) → port ≡ x.port → outbox ≡ x.outbox → IsAtWork model order m (record x { port = port; outbox = outbox })
kept_with {model = model} {order = order} m x work port outbox p a =
    subst (λ q. IsAtWork model order m (record x { port = q; outbox = outbox })) (sym p)
    (subst (λ l. IsAtWork model order m (record x { outbox = l })) (sym a) work)

-- of one of the lists that was read
pub read_part : {X Y : Type 0} (f : X → Y) (xs : List X) (i : ℕ) (v : X) (e : Y) → i < length (map f xs) → v ≡ get_or xs i v → f v ≡ get_or (map f xs) i e
read_part f xs i v e h q = ap f q ∙ sym (get_or-map f xs i v e (omega (arith, length-map xs f, h)))

-- one of the lists taken out and put back
pub put_back : {X Y : Type 0} (f : X → Y) (xs : List X) (i : ℕ) (a b d : X) → f b ≡ f (get_or xs i d) → map f (set (set xs i a) i b) ≡ map f xs
put_back f xs i a b d same =
    ap (map f) (set-set xs i a b) ∙ map-set f xs i b ∙ ap (set (map f xs) i) same ∙ sym (map-set f xs i (get_or xs i d)) ∙ ap (map f) (set-get_or xs i d)

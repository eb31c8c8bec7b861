-- Workers that have come to the end of a run in windows, and what they leave.
use Rattle.std.proofs.Common.{◌≡◌, ℕ, zero, suc, ◌+◌, ◌*◌, ◌<◌, ◌≤◌, true, List, [], ◌∷◌, ◌++◌, length, map, take, get_or, filter, refl, sym, ap, ◌∙◌, subst, arith, inl, inr, Option, Some, None, All, zero-add}
use Rattle.std.specs.Prelude.{◌/◌, ◌%◌, ◌==◌, slice_get}
use Rattle.std.specs.Option.{option_map}
use Rattle.std.specs.declared.cmp.Ordering.{Ordering}
use Rattle.std.proofs.lemmas.Bool.{cases_eq, cases_lt, eq-eqb}
use Rattle.std.proofs.lemmas.List.{get_or-map, length-map}
use Rattle.std.proofs.lemmas.Option.{slice_get_past}
use Rattle.rw_vt.specs.declared.event.Event.{Event}
use Rattle.rw_vt.specs.declared.model.Model.{Ghosts}
use Rattle.rw_vt.specs.Order.{copies, one_if_same, weigh, Has}
use Rattle.rw_vt.specs.System.{IsReady, System, flatten, map_from, rules, state_after, system}
use Rattle.rw_vt.specs.Partway.{IsPartway}
use Rattle.rw_vt.specs.Rest.{IsRestOf}
use Rattle.rw_vt.proofs.Sorting.{Has-append, each_of_all}
use Rattle.rw_vt.proofs.Bags.{copies-filter_yes}
use Rattle.rw_vt.proofs.Runs.{AreLawful, IsLawful}
use Rattle.rw_vt.proofs.Laws.{Laws, rules_lawful, lawful}
use Rattle.rw_vt.proofs.Complete.{IsMidway}
use Rattle.rw_vt.proofs.Rest.{states_by, rest_lawful, rest_of}
use Rattle.rw_vt.proofs.Partway.{parts_midway}
use Rattle.rw_serial.proofs.Lists.{length-map_from}
use Rattle.rw_exchange.specs.Ports.{IsOpening, IsOther, SamePort, entry, received_between, received_from, sent_between, sent_to}
use Rattle.rw_pool.specs.Shares.{of_shares}
use Rattle.rw_pool.specs.Sums.{sum_below}
use Rattle.rw_pool.proofs.Lists.{get_there}
use Rattle.rw_pool.proofs.Sums.{total_same, total_add, total_swap}
use Rattle.rw_windows.specs.Batches.{BatchState, MayFollow, events_in, batch_events, last_bound}
use Rattle.rw_windows.specs.Working.{HasDone, HasWorked, IsInTime, IsSeated, ShareState}
use Rattle.rw_windows.specs.Running.{AreBegun, HaveEnded, IsLeftOfRun}
use Rattle.rw_windows.proofs.Sums.{joined, weigh-append, weigh-joined, weigh_flatten, weigh_by, joined_one, Has-joined, Has-flatten, Has-flat, all_of_each, choose}
use Rattle.rw_windows.proofs.Joined.{part_same_initial, midway_reordered, all_joined}
use Rattle.rw_windows.proofs.Batched.{of_batch, weigh_events_in, left_events}

-- lists with the same elements at the same places
same_lists : {A : Type 0} (xs ys : List A) → ((i : ℕ) → slice_get xs i ≡ slice_get ys i) → xs ≡ ys
same_lists [] [] h = refl
same_lists [] (y ∷ ys) h = let e = h 0 in cc
same_lists (x ∷ xs) [] h = let e = h 0 in cc
same_lists (x ∷ xs) (y ∷ ys) h = let e : Some x ≡ Some y = h 0 in let rest = same_lists xs ys (λ i. h (suc i)) in cc

-- what is made of each element
get_made : {A C : Type 0} (k i : ℕ) (f : ℕ → A → C) (xs : List A) → slice_get (map_from k f xs) i ≡ option_map (f (k + i)) (slice_get xs i)
get_made k i f [] = refl
get_made k zero f (x ∷ xs) = let at : k ≡ k + 0 = omega arith in ap (λ n. Some (f n x)) at
get_made k (suc i) f (x ∷ xs) = let at : (k + 1) + i ≡ k + suc i = omega arith in get_made (k + 1) i f xs ∙ ap (λ n. option_map (f n) (slice_get xs i)) at

two_maps : {X Y Z : Type 0} (k : Y → Z) (f : X → Y) (xs : List X) (i : ℕ) (d : X) (e : Z) → i < length xs → get_or (map k (map f xs)) i e ≡ k (f (get_or xs i d))
two_maps k f xs i d e lt = get_or-map k (map f xs) i (f d) e (subst (λ n. i < n) (sym (length-map xs f)) lt) ∙ ap k (get_or-map f xs i d (f d) lt)

none_mapped : {X Y : Type 0} (f : X → Y) (o : Option X) → option_map f o ≡ None → o ≡ None
none_mapped f None e = refl
none_mapped f (Some x) e = cc

-- what each place of the shares holds, by number
pub same_shares : {V W X : Type 0} (f : V → List X) (k : W → List X) (shares : List V) (ws : List W) → map f shares ≡ map k ws → (q : ℕ) → of_shares (length shares) (map f shares) q ≡ of_shares (length ws) (map k ws) q
same_shares f k shares ws is q = ap (λ n. of_shares n (map f shares) q) (sym (length-map shares f) ∙ (ap length is ∙ length-map ws k)) ∙ ap (λ z. of_shares (length ws) z q) is

pub some_of : {X : Type 0} (xs : List X) → 0 < length xs → X
some_of [] h = absurd (omega arith)
some_of (x ∷ xs) h = x

-- workers that began together and have worked up to the end
module _ {M S B U : Type 0} {model : Ghosts M S B U} {order : B → B → Ordering} {m : M} {n end : ℕ} {states : List S} {events : List (Event B)} (begun ws : List (ShareState M S B)) where
  pub ended : AreBegun model order m n end states events begun → length ws ≡ length begun → ((i : ℕ) (d e : ShareState M S B) → i < length begun → HasWorked model order m (get_or begun i d) (get_or ws i e)) → All (λ w. w.end ≤ w.until) ws
      → HaveEnded model order m (length ws) end states events ws
  ended were count worked done =
      let many : length ws ≡ n = count ∙ were.many in
      subst (λ k. HaveEnded model order m k end states events ws) (sym many) (record {
        begun = begun;
        were = were;
        many = many;
        worked = λ i d e inside. worked i d e (omega (arith, were.many));
        done = done;
      })

module _ {M S B U : Type 0} {model : Ghosts M S B U} {order : B → B → Ordering} (laws : Laws model order) (m : M) {n end : ℕ} {states : List S} {events : List (Event B)} {ws : List (ShareState M S B)} (some : 1 ≤ n)
    (ended : HaveEnded model order m n end states events ws) (d : ShareState M S B) where
  abbrev y : System S B
  y = system model order m states events

  abbrev at : ℕ → ShareState M S B
  at i = get_or ws i d

  law : AreLawful (rules model order m) (model.IsWellFormed m)
  law = rules_lawful laws m

  -- what is known of each worker

  worked : (i : ℕ) → i < n → HasWorked model order m (get_or ended.begun i d) (at i)
  worked i l = ended.worked i d d l

  begun_terms : (i : ℕ) → i < n → ((get_or ended.begun i d).workers ≡ n) × ((get_or ended.begun i d).end ≡ end) × ((get_or ended.begun i d).starts ≡ states)
  begun_terms i l = ended.were.terms i d (subst (λ k. i < k) (sym ended.were.many) l)

  number_is : (i : ℕ) → i < n → (at i).number ≡ i
  number_is i l = (worked i l).same.number ∙ ended.were.numbers i d l

  workers_is : (i : ℕ) → i < n → (at i).workers ≡ n
  workers_is i l = (worked i l).same.workers ∙ (begun_terms i l).0

  end_is : (i : ℕ) → i < n → (at i).end ≡ end
  end_is i l = (worked i l).same.end ∙ (begun_terms i l).1

  starts_is : (i : ℕ) → i < n → (at i).starts ≡ states
  starts_is i l = (worked i l).same.starts ∙ (begun_terms i l).2

  given_is : (i : ℕ) → i < n → (at i).given ≡ filter (λ e. e.to % n == i) events
  given_is i l = (worked i l).same.given ∙ ended.were.given i d l

  seated : (i : ℕ) → i < n → IsSeated model m (at i)
  seated i l = (worked i l).at_work.seated

  times : (i : ℕ) → i < n → IsInTime (at i)
  times i l = (worked i l).at_work.times

  done_is : (i : ℕ) → i < n → HasDone (rules model order m) (at i)
  done_is i l = (worked i l).at_work.done

  until_is : (i : ℕ) → i < n → (at i).until ≡ end
  until_is i l =
      let a : (at i).end ≤ (at i).until = ended.done i d (subst (λ k. i < k) (sym ended.many) l) in
      let b = (times i l).until.2 in
      let c = end_is i l in
      omega (arith, a, b, c)

  sent_wide : (i : ℕ) → i < n → length (at i).port.sent ≡ n
  sent_wide i l = (seated i l).wide.2 ∙ workers_is i l

  received_wide : (i : ℕ) → i < n → length (at i).port.received ≡ n
  received_wide i l = (seated i l).wide.3 ∙ workers_is i l

  other : (i v : ℕ) → i < n → v < n → (v ≡ i → ⊥) → IsOther (at i).port v
  other i v l lv ne = (
    subst (λ k. v < k) (sym ((seated i l).wide.0 ∙ workers_is i l)) lv,
    λ e. ne (e ∙ (seated i l).port ∙ number_is i l),
  )

  -- The run that they make

  -- worker i has executed these journals
  record Executed (i : ℕ) (J : ℕ → List (Event B)) : Type 0 where
    partway : IsPartway (record { rules = rules model order m; starts = states; initial = (at i).given ++ events_in (at i).port.received }) J (at i).waiting (events_in (at i).port.sent ++ flatten (at i).outbox)
    idle : (q : ℕ) → (q % n ≡ i → ⊥) → J q ≡ []
    done : (q : ℕ) (a : Event B) → Has (rules model order m).order (J q) a → a.time < end
    states_are : (k : ℕ) → slice_get (at i).states k ≡ option_map (λ s. state_after ((rules model order m).step (i + k * n)) s (J (i + k * n))) (slice_get states (i + k * n))

  executed : (i : ℕ) → i < n → (J : ℕ → List (Event B)) × Executed i J
  executed i l = (
    (done_is i l).journal,
    record {
      partway = subst (λ z. IsPartway (record { rules = rules model order m; starts = z; initial = (at i).given ++ events_in (at i).port.received }) (done_is i l).journal (at i).waiting (events_in (at i).port.sent ++ flatten (at i).outbox)) (starts_is i l) (done_is i l).partway;
      idle = λ q ne. (done_is i l).own q (λ e. ne (ap (λ k. q % k) (sym (workers_is i l)) ∙ e ∙ number_is i l));
      done = λ q a h. let k = (done_is i l).before q a h in let e = until_is i l in omega (arith, k, e);
      states_are = λ k.
          subst (λ z. slice_get (at i).states k ≡ option_map (λ s. state_after ((rules model order m).step z) s ((done_is i l).journal z)) (slice_get states z))
          (ap (λ z. z + k * (at i).workers) (number_is i l) ∙ ap (λ z. i + k * z) (workers_is i l))
          (subst (λ z. slice_get (at i).states k ≡ option_map (λ s. state_after ((rules model order m).step ((at i).number + k * (at i).workers)) s ((done_is i l).journal ((at i).number + k * (at i).workers))) (slice_get z ((at i).number + k * (at i).workers)))
          (starts_is i l)
          ((done_is i l).states_are k));
    },
  )

  owner_below : (q : ℕ) → q % n < n
  owner_below q = omega arith

  pub opening : IsOpening (map (λ w. w.port) ws)
  opening = ended.were.stays (map (λ w. w.port) ws) (
    length-map ws (λ w. w.port) ∙ ended.many ∙ sym (length-map ended.begun (λ w. w.port) ∙ ended.were.many),
    λ i e lt.
        let many : length (map (λ w. w.port) ended.begun) ≡ n = length-map ended.begun (λ w. w.port) ∙ ended.were.many in
        let l : i < n = omega (arith, lt, many) in
        let first : get_or (map (λ w. w.port) ended.begun) i e ≡ (get_or ended.begun i d).port = get_or-map (λ w. w.port) ended.begun i d e (subst (λ z. i < z) (sym ended.were.many) l) in
        let last : get_or (map (λ w. w.port) ws) i e ≡ (at i).port = get_or-map (λ w. w.port) ws i d e (subst (λ z. i < z) (sym ended.many) l) in
        subst (λ z. SamePort z (get_or (map (λ w. w.port) ws) i e)) (sym first) (subst (λ z. SamePort (get_or ended.begun i d).port z) (sym last) (worked i l).same.port),
  )

  share_is : (q : ℕ) → of_shares n (map (λ w. w.states) ws) q ≡ slice_get (at (q % n)).states (q / n)
  share_is q = ap (λ z. slice_get z (q / n)) (get_or-map (λ w. w.states) ws (q % n) d [] (subst (λ z. q % n < z) (sym ended.many) (owner_below q)))

  -- each process is in the share of its worker
  pub complete : (q : ℕ) → q < length states → of_shares n (map (λ w. w.states) ws) q ≡ None → ⊥
  complete q within none =
      let l : q % n < n = owner_below q in
      let number : q % n + (q / n) * n ≡ q = omega arith in
      let it = executed (q % n) l in
      let gone : option_map (λ s. state_after ((rules model order m).step (q % n + (q / n) * n)) s (it.0 (q % n + (q / n) * n))) (slice_get states (q % n + (q / n) * n)) ≡ None = sym (it.1.states_are (q / n)) ∙ sym (share_is q) ∙ none in
      get_there states q within (ap (slice_get states) (sym number) ∙ none_mapped _ (slice_get states (q % n + (q / n) * n)) gone)

  late_waiting : (i : ℕ) (a : Event B) → i < n → Has (rules model order m).order (at i).waiting a → end ≤ a.time
  late_waiting i a l h =
      let e = end_is i l in
      let k = each_of_all law.exact (λ a. (at i).end ≤ a.time) (at i).waiting ((worked i l).waits (until_is i l ∙ sym e)) a h in
      omega (arith, e, k)

  -- What goes on the way

  given_all : (h : Event B → ℕ) → sum_below n (λ i. weigh h (at i).given) ≡ weigh h events
  given_all h = total_same n (λ i. weigh h (at i).given) (λ i. weigh h (filter (λ e. e.to % n == i) events)) (λ i l. ap (weigh h) (given_is i l)) ∙ weigh_by h n (λ e. e.to % n) (λ e. owner_below e.to) events

  abbrev came : List (Event B)
  came = joined n (λ i. events_in (at i).port.received)

  first_same : (h : Event B → ℕ) → weigh h (joined n (λ i. (at i).given ++ events_in (at i).port.received)) ≡ weigh h (events ++ came)
  first_same h =
      weigh-joined h n (λ i. (at i).given ++ events_in (at i).port.received)
      ∙ total_same n (λ i. weigh h ((at i).given ++ events_in (at i).port.received)) (λ i. weigh h (at i).given + weigh h (events_in (at i).port.received)) (λ i l. weigh-append h (at i).given (events_in (at i).port.received))
      ∙ total_add n (λ i. weigh h (at i).given) (λ i. weigh h (events_in (at i).port.received))
      ∙ omega (arith, given_all h, weigh-append h events came, weigh-joined h n (λ i. events_in (at i).port.received))

  -- The ready start

  ready : IsReady model m states events
  ready = record { enough = ap length (sym (starts_is 0 some)) ∙ first.enough; well_formed = λ p s e. first.well_formed p s (ap (λ z. slice_get z p) (starts_is 0 some) ∙ e); valid = all_of_each law.exact (λ e. model.is_valid m e ≡ true) events valid }
    where
      first : IsReady model m (at 0).starts ((at 0).given ++ events_in (at 0).port.received)
      first = (seated 0 some).ready

      valid : (e : Event B) → Has (rules model order m).order events e → model.is_valid m e ≡ true
      valid e h =
          let l : e.to % n < n = owner_below e.to in
          let same = ap (copies (rules model order m).order e) (given_is (e.to % n) l) ∙ copies-filter_yes law.exact (λ f. f.to % n == e.to % n) e events (eq-eqb (e.to % n) (e.to % n) refl) in
          let there : Has (rules model order m).order ((at (e.to % n)).given ++ events_in (at (e.to % n)).port.received) e = omega (arith, same, weigh-append (one_if_same (rules model order m).order e) (at (e.to % n)).given (events_in (at (e.to % n)).port.received)) in
          each_of_all law.exact (λ e. model.is_valid m e ≡ true) ((at (e.to % n)).given ++ events_in (at (e.to % n)).port.received) (seated (e.to % n) l).ready.valid e there

  lawful_run : IsLawful y (model.IsWellFormed m)
  lawful_run = lawful laws m states events ready

  -- What is left on the way

  module _ (left : List (List (List (BatchState M B)))) (long : length left ≡ n) (wide : All (λ row. length row ≡ n) left)
      (fifo : (i k : ℕ) → i < n → k < n → received_between (map (λ w. w.port) ws) i k ++ entry left i k ≡ sent_between (map (λ w. w.port) ws) i k)
      (allowed : (i k : ℕ) → i < n → k < n → (j : ℕ) (b : BatchState M B) → j < length (entry left i k) → MayFollow model (received_between (map (λ w. w.port) ws) i k ++ take j (entry left i k)) (get_or (entry left i k) j b))
      (own : (i : ℕ) → i < n → entry left i i ≡ []) where
    row_wide : (i : ℕ) → i < n → length (get_or left i []) ≡ n
    row_wide i l = wide i [] (subst (λ k. i < k) (sym long) l)

    received_is : (i k : ℕ) → k < n → received_between (map (λ w. w.port) ws) i k ≡ received_from (at k).port i
    received_is i k l = ap (λ z. get_or z i []) (two_maps (λ p. p.received) (λ w. w.port) ws k d [] (subst (λ z. k < z) (sym ended.many) l))

    sent_is : (i k : ℕ) → i < n → sent_between (map (λ w. w.port) ws) i k ≡ sent_to (at i).port k
    sent_is i k l = ap (λ z. get_or z k []) (two_maps (λ p. p.sent) (λ w. w.port) ws i d [] (subst (λ z. i < z) (sym ended.many) l))

    settled : (i k : ℕ) → i < n → k < n → received_from (at k).port i ++ entry left i k ≡ sent_to (at i).port k
    settled i k li lk = ap (λ z. z ++ entry left i k) (sym (received_is i k lk)) ∙ fifo i k li lk ∙ sent_is i k li

    -- what was sent was received, or is left
    module _ (h : Event B → ℕ) where
      abbrev W : List (BatchState M B) → ℕ
      W bs = weigh (of_batch h) bs

      sent_one : (i : ℕ) → i < n → weigh h (events_in (at i).port.sent) ≡ sum_below n (λ k. W (sent_to (at i).port k))
      sent_one i l = weigh_events_in h (at i).port.sent ∙ ap (λ z. sum_below z (λ k. W (sent_to (at i).port k))) (sent_wide i l)

      received_one : (i : ℕ) → i < n → weigh h (events_in (at i).port.received) ≡ sum_below n (λ k. W (received_from (at i).port k))
      received_one i l = weigh_events_in h (at i).port.received ∙ ap (λ z. sum_below z (λ k. W (received_from (at i).port k))) (received_wide i l)

      left_all : weigh h (flatten (map events_in left)) ≡ sum_below n (λ i. sum_below n (λ k. W (entry left i k)))
      left_all =
          weigh_flatten h events_in left []
          ∙ ap (λ z. sum_below z (λ i. weigh h (events_in (get_or left i [])))) long
          ∙ total_same n (λ i. weigh h (events_in (get_or left i []))) (λ i. sum_below n (λ k. W (entry left i k))) (λ i l. weigh_events_in h (get_or left i []) ∙ ap (λ z. sum_below z (λ k. W (entry left i k))) (row_wide i l))

      rings_all : sum_below n (λ i. weigh h (events_in (at i).port.sent)) ≡ sum_below n (λ i. weigh h (events_in (at i).port.received)) + weigh h (flatten (map events_in left))
      rings_all =
          total_same n (λ i. weigh h (events_in (at i).port.sent)) (λ i. sum_below n (λ k. W (received_from (at k).port i)) + sum_below n (λ k. W (entry left i k)))
          (λ i li.
          sent_one i li
          ∙ total_same n (λ k. W (sent_to (at i).port k)) (λ k. W (received_from (at k).port i) + W (entry left i k)) (λ k lk. ap W (sym (settled i k li lk)) ∙ weigh-append (of_batch h) (received_from (at k).port i) (entry left i k))
          ∙ total_add n (λ k. W (received_from (at k).port i)) (λ k. W (entry left i k)))
          ∙ total_add n (λ i. sum_below n (λ k. W (received_from (at k).port i))) (λ i. sum_below n (λ k. W (entry left i k)))
          ∙ omega (arith, left_all, total_swap n n (λ i k. W (received_from (at k).port i)), total_same n (λ i. weigh h (events_in (at i).port.received)) (λ i. sum_below n (λ k. W (received_from (at i).port k))) received_one)

    abbrev outbox_all : List (Event B)
    outbox_all = joined n (λ i. flatten (at i).outbox)

    abbrev way : List (Event B)
    way = outbox_all ++ flatten (map events_in left)

    handed : (h : Event B → ℕ) → weigh h (joined n (λ i. events_in (at i).port.sent ++ flatten (at i).outbox)) ≡ weigh h came + weigh h way
    handed h =
        weigh-joined h n (λ i. events_in (at i).port.sent ++ flatten (at i).outbox)
        ∙ total_same n (λ i. weigh h (events_in (at i).port.sent ++ flatten (at i).outbox)) (λ i. weigh h (events_in (at i).port.sent) + weigh h (flatten (at i).outbox)) (λ i l. weigh-append h (events_in (at i).port.sent) (flatten (at i).outbox))
        ∙ total_add n (λ i. weigh h (events_in (at i).port.sent)) (λ i. weigh h (flatten (at i).outbox))
        ∙ omega (arith, rings_all h, weigh-joined h n (λ i. events_in (at i).port.received), weigh-append h outbox_all (flatten (map events_in left)), weigh-joined h n (λ i. flatten (at i).outbox))

    -- and is valid, and not before the end
    abbrev Comes : Event B → Type 0
    Comes a = (model.is_valid m a ≡ true) × (end ≤ a.time)

    outbox_comes : (i v : ℕ) (a : Event B) → i < n → v < n → Has (rules model order m).order (get_or (at i).outbox v []) a → Comes a
    outbox_comes i v a l lv h = elim (cases_eq v i) [
      | inl e ↦
          let none : get_or (at i).outbox v [] ≡ [] = ap (λ z. get_or (at i).outbox z []) (e ∙ sym (number_is i l)) ∙ (done_is i l).none in
          let count = ap (copies (rules model order m).order a) none in
          absurd (omega (arith, count, h))
      | inr ne ↦
          let it = other i v l lv ne in
          let valid = each_of_all law.exact (λ a. (a.to % (at i).workers ≡ v) × (model.is_valid m a ≡ true)) (get_or (at i).outbox v []) ((done_is i l).theirs v it) a h in
          let time = each_of_all law.exact (λ a. ((at i).until ≤ a.time) × (last_bound (sent_to (at i).port v) ≤ a.time)) (get_or (at i).outbox v []) ((times i l).outbox v it) a h in
          let e = until_is i l in
          (valid.1, omega (arith, e, time.0))
    ]

    ring_comes : (i k : ℕ) (a : Event B) → i < n → k < n → Has (rules model order m).order (batch_events (entry left i k)) a → Comes a
    ring_comes i k a l lk h = elim (cases_eq i k) [
      | inl e ↦
          let none : entry left i k ≡ [] = ap (λ z. entry left i z) (sym e) ∙ own i l in
          let count = ap (λ z. copies (rules model order m).order a (batch_events z)) none in
          absurd (omega (arith, count, h))
      | inr ne ↦
          let it = other k i lk l ne in
          let follow : (j : ℕ) (b : BatchState M B) → j < length (entry left i k) → MayFollow model (received_from (at k).port i ++ take j (entry left i k)) (get_or (entry left i k) j b) =
          λ j b lj. subst (λ z. MayFollow model (z ++ take j (entry left i k)) (get_or (entry left i k) j b)) (received_is i k lk) (allowed i k l lk j b lj)
          in
          let got = left_events model (received_from (at k).port i) (entry left i k) follow law.exact m (at k).workers (at k).number ((seated k lk).hears i it) (record { events = []; bound = 0; model = m; workers = 0; to = 0 }) a h in
          let bound_in = (times k lk).bound_in i it in
          let until = (times k lk).until.0 in
          let e = until_is k lk in
          (got.0, omega (arith, got.1, bound_in, until, e))
    ]

    way_comes : (a : Event B) → Has (rules model order m).order way a → Comes a
    way_comes a h = elim (Has-append law.exact a outbox_all (flatten (map events_in left)) h) [
      | inl k ↦
          let one = Has-joined law.exact n (λ i. flatten (at i).outbox) a k in
          let two = Has-flat law.exact (at one.0).outbox a one.2 in
          let lists = (seated one.0 one.1).lists ∙ workers_is one.0 one.1 in
          outbox_comes one.0 two.0 a one.1 (omega (arith, two.1, lists)) two.2
      | inr k ↦
          let one = Has-flatten law.exact events_in left a [] k in
          let l : one.0 < n = omega (arith, one.1, long) in
          let two = Has-flatten law.exact batch_events (get_or left one.0 []) a [] one.2 in
          ring_comes one.0 two.0 a l (omega (arith, two.1, row_wide one.0 l)) two.2
    ]

    -- The run midway

    journals : (J : ℕ → ℕ → List (Event B)) × ((i : ℕ) → i < n → Executed i (J i))
    journals = choose Executed (λ q. []) n executed

    abbrev whole_journal : ℕ → List (Event B)
    whole_journal q = joined n (λ i. journals.0 i q)

    abbrev waiting_all : List (Event B)
    waiting_all = joined n (λ i. (at i).waiting)

    all_executed : IsPartway (record { rules = rules model order m; starts = states; initial = joined n (λ i. (at i).given ++ events_in (at i).port.received) }) whole_journal waiting_all (joined n (λ i. events_in (at i).port.sent ++ flatten (at i).outbox))
    all_executed =
        all_joined (rules model order m) law states end n (λ i. (at i).given ++ events_in (at i).port.received) (λ i. (at i).waiting) (λ i. events_in (at i).port.sent ++ flatten (at i).outbox) journals.0
        (λ i l. (journals.1 i l).partway) (λ i q l ne. (journals.1 i l).idle q ne) (λ i q a l h. (journals.1 i l).done q a h) (λ i a l h. late_waiting i a l h) n (omega arith)

    done_before : (q : ℕ) (a : Event B) → Has (rules model order m).order (whole_journal q) a → a.time < end
    done_before q a h = let r = Has-joined law.exact n (λ i. journals.0 i q) a h in (journals.1 r.0 r.1).done q a r.2

    midway : IsMidway y whole_journal (waiting_all ++ way)
    midway =
        parts_midway y lawful_run end came
        (part_same_initial y (joined n (λ i. (at i).given ++ events_in (at i).port.received)) (events ++ came) all_executed (λ e. first_same (one_if_same (rules model order m).order e)))
        way (λ e. handed (one_if_same (rules model order m).order e)) (λ a h. (way_comes a h).0) done_before (λ a h. (way_comes a h).1)

    -- a process has executed what its worker has executed at it
    journal_of : (q : ℕ) → whole_journal q ≡ journals.0 (q % n) q
    journal_of q = joined_one n (q % n) (λ i. journals.0 i q) (owner_below q) (λ i l ne. (journals.1 i l).idle q (λ e. ne (sym e)))

    module _ (all : List S) (count : length all ≡ length states) (each : (q : ℕ) → q < length states → slice_get all q ≡ of_shares n (map (λ w. w.states) ws) q) where
      here : (q : ℕ) → q < length states → slice_get all q ≡ option_map (λ s. state_after ((rules model order m).step q) s (whole_journal q)) (slice_get states q)
      here q within =
          let l : q % n < n = owner_below q in
          let number : q % n + (q / n) * n ≡ q = omega arith in
          let share : get_or (map (λ w. w.states) ws) (q % n) [] ≡ (at (q % n)).states = get_or-map (λ w. w.states) ws (q % n) d [] (subst (λ z. q % n < z) (sym ended.many) l) in
          each q within
          ∙ ap (λ z. slice_get z (q / n)) share
          ∙ (journals.1 (q % n) l).states_are (q / n)
          ∙ ap (λ z. option_map (λ s. state_after ((rules model order m).step z) s (journals.0 (q % n) z)) (slice_get states z)) number
          ∙ ap (λ z. option_map (λ s. state_after ((rules model order m).step q) s z) (slice_get states q)) (sym (journal_of q))

      made : (q : ℕ) → slice_get (states_by y whole_journal) q ≡ option_map (λ s. state_after ((rules model order m).step q) s (whole_journal q)) (slice_get states q)
      made q =
          get_made 0 q (λ p s. state_after ((rules model order m).step p) s (whole_journal p)) states
          ∙ ap (λ z. option_map (λ s. state_after ((rules model order m).step z) s (whole_journal z)) (slice_get states q)) (zero-add q)

      states_same : all ≡ states_by y whole_journal
      states_same = same_lists all (states_by y whole_journal) (λ q. elim (cases_lt q (length states)) [
        | inl l ↦ here q l ∙ sym (made q)
        | inr l ↦
            slice_get_past all q (omega (arith, count, l))
            ∙ sym (slice_get_past (states_by y whole_journal) q (omega (arith, l, length-map_from 0 (λ p s. state_after ((rules model order m).step p) s (whole_journal p)) states)))
      ])

      module _ (events' : List (Event B)) (bag : (h : Event B → ℕ) → weigh h events' ≡ weigh h (flatten (map (λ w. w.waiting ++ flatten w.outbox) ws)) + weigh h (flatten (map events_in left))) where
        same_events : (h : Event B → ℕ) → weigh h events' ≡ weigh h (waiting_all ++ way)
        same_events h =
            bag h
            ∙ ap (λ z. z + weigh h (flatten (map events_in left))) (weigh_flatten h (λ w. w.waiting ++ flatten w.outbox) ws d
            ∙ ap (λ z. sum_below z (λ i. weigh h ((at i).waiting ++ flatten (at i).outbox))) ended.many
            ∙ total_same n (λ i. weigh h ((at i).waiting ++ flatten (at i).outbox)) (λ i. weigh h (at i).waiting + weigh h (flatten (at i).outbox)) (λ i l. weigh-append h (at i).waiting (flatten (at i).outbox))
            ∙ total_add n (λ i. weigh h (at i).waiting) (λ i. weigh h (flatten (at i).outbox)))
            ∙ omega (arith, weigh-append h waiting_all way, weigh-append h outbox_all (flatten (map events_in left)), weigh-joined h n (λ i. (at i).waiting), weigh-joined h n (λ i. flatten (at i).outbox))

        left_midway : IsMidway y whole_journal events'
        left_midway = midway_reordered midway (λ e. same_events (one_if_same (rules model order m).order e))

        late_left : (a : Event B) → Has (rules model order m).order events' a → end ≤ a.time
        late_left a h = elim (Has-append law.exact a waiting_all way (subst (λ z. 0 < z) (same_events (one_if_same (rules model order m).order a)) h)) [
          | inl k ↦ let r = Has-joined law.exact n (λ i. (at i).waiting) a k in late_waiting r.0 a r.1 r.2
          | inr k ↦ (way_comes a k).1
        ]

        ready_left : IsReady model m all events'
        ready_left = record {
          enough = count ∙ ready.enough;
          well_formed = λ p s e. rest.starts p s (ap (λ z. slice_get z p) (sym states_same) ∙ e);
          valid = all_of_each law.exact (λ e. model.is_valid m e ≡ true) events' rest.initial;
        }
          where
            rest : IsLawful (record y { starts = states_by y whole_journal; initial = events' }) (model.IsWellFormed m)
            rest = rest_lawful y lawful_run whole_journal events' left_midway

        rest_left : IsRestOf (system model order m states events) end all events'
        rest_left = subst (λ z. IsRestOf (system model order m states events) end z events') (sym states_same) (rest_of y lawful_run end whole_journal events' left_midway done_before)

        pub is_left : IsLeftOfRun model order m end states events all events'
        is_left = record { ready = ready_left; rest = rest_left; late = all_of_each law.exact (λ e. end ≤ e.time) events' late_left }

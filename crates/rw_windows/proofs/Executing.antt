-- A worker that executes its next event.
use Rattle.std.proofs.Common.{◌≡◌, ◌≢◌, ℕ, zero, suc, ◌+◌, ◌*◌, ◌/◌, ◌%◌, ◌<◌, ◌≤◌, Bool, true, false, cond, ◌==◌, List, [], ◌∷◌, ◌++◌, length, refl, sym, ◌∙◌, ap, subst, arith, inl, inr, ◌⊎◌, filter, slice_index_or, slice_set, All, IsPermutation, Some}
use Rattle.std.specs.Prelude.{option_map, slice_get}
use Rattle.std.proofs.lemmas.Bool.Decides.{nat_tests}
use Rattle.std.proofs.lemmas.List.Elements.{All-append, All-cons, All-filter, All-head, All-nil, All-tail, All-weaker}
use Rattle.std.proofs.lemmas.List.Sorted.{All-permutation}
use Rattle.std.proofs.lemmas.Option.{slice_get_within}
use Rattle.std.specs.declared.cmp.Ordering.{Ordering}
use Rattle.rw_vt.specs.declared.event.Event.{Event}
use Rattle.rw_vt.specs.declared.model.Model.{Ghosts}
use Rattle.rw_vt.specs.Valid.{IsSentBy}
use Rattle.rw_vt.specs.Order.{AtMost, copies, Has, event_cmp, one_if_same}
use Rattle.rw_vt.specs.System.{System, flatten, rules, state_after, system}
use Rattle.rw_vt.specs.Partway.{IsPartway, with_next}
use Rattle.rw_vt.proofs.Laws.{Laws, lawful}
use Rattle.rw_vt.proofs.Sorting.{Has-append, Has-filter, Has-head, each_of_all}
use Rattle.rw_vt.proofs.Runs.{IsLawful, after-append}
use Rattle.rw_vt.proofs.Partway.{next_fine, next_here, next_other, part_next}
use Rattle.rw_serial.proofs.Lists.{there_below}
use Rattle.rw_exchange.specs.Ports.{IsOther, sent_to}
use Rattle.rw_pool.proofs.Dealing.{number_place}
use Rattle.rw_windows.specs.Batches.{events_in, last_bound}
use Rattle.rw_windows.specs.Working.{HasDone, IsAtWork, IsDealt, IsInTime, IsSeated, ShareState, outbox_to}
use Rattle.rw_windows.proofs.Sums.{weigh-append, weigh_permuted}

-- what passes a test, does
all_passing : {X : Type 0} (P : X → Type 0) (p : X → Bool) (xs : List X) → All P xs → All (λ x. P x × (p x ≡ true)) (filter p xs)
all_passing P p [] all = All-nil (λ x. P x × (p x ≡ true))
all_passing {X} P p (x ∷ xs) all = by (p x) refl (all_passing P p xs (All-tail P x xs all))
  where
    by : (b : Bool) → p x ≡ b → All (λ x. P x × (p x ≡ true)) (filter p xs) → All (λ x. P x × (p x ≡ true)) (cond b (x ∷ filter p xs) (filter p xs))
    by true h rest = All-cons (λ x. P x × (p x ≡ true)) x (filter p xs) (All-head P x xs all, h) rest
    by false h rest = rest

get_set-same : {A : Type 0} (ps : List A) (p : ℕ) (x y : A) → slice_get ps p ≡ Some x → slice_get (slice_set ps p y) p ≡ Some y
get_set-same [] p x y h = cc
get_set-same (a ∷ ps) zero x y h = refl
get_set-same (a ∷ ps) (suc p) x y h = get_set-same ps p x y h

get_set-other : {A : Type 0} (ps : List A) (p q : ℕ) (y : A) → q ≢ p → slice_get (slice_set ps p y) q ≡ slice_get ps q
get_set-other [] p q y h = refl
get_set-other (a ∷ ps) zero zero y h = absurd (h refl)
get_set-other (a ∷ ps) zero (suc q) y h = refl
get_set-other (a ∷ ps) (suc p) zero y h = refl
get_set-other (a ∷ ps) (suc p) (suc q) y h = get_set-other ps p q y (λ k. h (ap suc k))

module _ {M S B U : Type 0} {model : Ghosts M S B U} {order : B → B → Ordering} (laws : Laws model order) (m : M) (x : ShareState M S B) (at : IsAtWork model order m x) (e : Event B) (R : List (Event B))
    (soon : e.time < x.until) (least : All (AtMost (event_cmp order) e) x.waiting) (taken : IsPermutation x.waiting (e ∷ R)) where
  abbrev y : System S B
  y = system model order m x.starts (x.given ++ events_in x.port.received)

  law : IsLawful y (model.IsWellFormed m)
  law = lawful laws m x.starts (x.given ++ events_in x.port.received) at.seated.ready

  counts : (a : Event B) → copies y.rules.order a x.waiting ≡ copies y.rules.order a (e ∷ R)
  counts a = sym (weigh_permuted (one_if_same y.rules.order a) x.waiting (e ∷ R) taken)

  there : Has y.rules.order x.waiting e
  there = let h = Has-head law.rules.exact e R in omega (arith, counts e, h)

  to_me : e.to % x.workers ≡ x.number
  to_me = each_of_all law.rules.exact (λ a. a.to % x.workers ≡ x.number) x.waiting at.done.ours e there

  pub valid : model.is_valid m e ≡ true
  valid = at.done.partway.sound e there

  inside : e.to < length x.starts
  inside = (law.inside e valid).to

  pub in_range : e.to < model.process_count m
  in_range = subst (λ n. e.to < n) at.seated.ready.enough inside

  abbrev k : ℕ
  k = e.to / x.workers

  place : x.number + k * x.workers ≡ e.to
  place = let below = at.seated.number in let back : e.to % x.workers + (e.to / x.workers) * x.workers ≡ e.to = omega (arith, below) in omega (arith, back, to_me)

  pub start : (s : S) × (slice_get x.starts e.to ≡ Some s)
  start = there_below x.starts e.to inside

  abbrev now : S
  now = state_after (y.rules.step e.to) start.0 (at.done.journal e.to)

  pub here : slice_get x.states k ≡ Some now
  here =
      at.done.states_are k
      ∙ ap (λ q. option_map (λ s. state_after (y.rules.step q) s (at.done.journal q)) (slice_get x.starts q)) place
      ∙ ap (option_map (λ s. state_after (y.rules.step e.to) s (at.done.journal e.to))) start.1

  pub has_place : k < length x.states
  has_place = slice_get_within x.states k now here

  least_of : (b : Event B) → Has y.rules.order x.waiting b → AtMost y.rules.order e b
  least_of b h = each_of_all law.rules.exact (AtMost y.rules.order e) x.waiting least b h

  fine : model.IsWellFormed m e.to now
  fine = next_fine y law at.done.partway e R counts least_of start.0 start.1

  abbrev sent : List (Event B)
  sent = (model.step m e.to now e).1

  future : All (λ f. IsSentBy e.to e f × (model.is_valid m f ≡ true)) sent
  future = law.rules.future e.to now e fine valid refl

  ahead : All (λ f. e.time + x.lookahead ≤ f.time) sent
  ahead = at.seated.ahead e.to now e fine valid refl

  later : All (λ f. e.time < f.time) sent
  later = All-weaker (λ f. IsSentBy e.to e f × (model.is_valid m f ≡ true)) (λ f. e.time < f.time) (λ f h. h.0.later) sent future

  rest : (P : Event B → Type 0) → All P x.waiting → All P R
  rest P all = All-tail P e R (All-permutation P x.waiting (e ∷ R) taken all)

  bound_out_soon : x.bound_out ≤ e.time + x.lookahead
  bound_out_soon = each_of_all law.rules.exact (λ a. x.bound_out ≤ a.time + x.lookahead) x.waiting at.times.far e there

  module _ (Q : List (Event B)) (A : List (List (Event B)))
      (dealt : IsDealt (record x { states = slice_set x.states k (model.step m e.to now e).0; waiting = R; reached = e.time }) (record x { states = slice_set x.states k (model.step m e.to now e).0; waiting = Q; outbox = A; reached = e.time }) sent) where
    abbrev J : ℕ → List (Event B)
    J = with_next at.done.journal e

    abbrev own : List (Event B)
    own = filter (λ f. f.to % x.workers == x.number) sent

    abbrev for_other : ℕ → List (Event B)
    for_other v = filter (λ f. f.to % x.workers == v) sent

    moved : (a : Event B) → copies y.rules.order a Q + copies y.rules.order a (events_in x.port.sent ++ flatten A)
        ≡ copies y.rules.order a R + (copies y.rules.order a (events_in x.port.sent ++ flatten x.outbox) + copies y.rules.order a sent)
    moved a =
        omega (
          arith,
          dealt.all (one_if_same y.rules.order a),
          weigh-append (one_if_same y.rules.order a) (events_in x.port.sent) (flatten A),
          weigh-append (one_if_same y.rules.order a) (events_in x.port.sent) (flatten x.outbox),
        )

    from : (b : Event B) → Has y.rules.order Q b → Has y.rules.order R b ⊎ Has y.rules.order sent b
    from b h =
        let same = weigh_permuted (one_if_same y.rules.order b) (R ++ own) Q dealt.waiting in
        elim (Has-append law.rules.exact b R own (omega (arith, same, h))) [
          | inl m ↦ inl m
          | inr m ↦ inr (Has-filter law.rules.exact (λ f. f.to % x.workers == x.number) b sent m).0
        ]

    partway : IsPartway y J Q (events_in x.port.sent ++ flatten A)
    partway = part_next y law at.done.partway e R counts least_of start.0 start.1 Q (events_in x.port.sent ++ flatten A) moved from

    not_mine : (q : ℕ) → (q % x.workers ≡ x.number → ⊥) → J q ≡ []
    not_mine q other = next_other at.done.journal e q (λ same. other (ap (λ p. p % x.workers) same ∙ to_me)) ∙ at.done.own q other

    ours : All (λ a. a.to % x.workers ≡ x.number) Q
    ours =
        All-permutation (λ a. a.to % x.workers ≡ x.number) (R ++ own) Q dealt.waiting
        (All-append (λ a. a.to % x.workers ≡ x.number) R own (rest (λ a. a.to % x.workers ≡ x.number) at.done.ours)
        (All-weaker (λ f. (IsSentBy e.to e f × (model.is_valid m f ≡ true)) × ((f.to % x.workers == x.number) ≡ true)) (λ f. f.to % x.workers ≡ x.number) (λ f h. let test = h.1 in grind (arith, nat_tests)) own
        (all_passing (λ f. IsSentBy e.to e f × (model.is_valid m f ≡ true)) (λ f. f.to % x.workers == x.number) sent future)))

    -- what holds of what was to be handed over, and of all that was sent, holds of what is then
    handed : (P : Event B → Type 0) (v : ℕ) → IsOther x.port v → All P (outbox_to x v) → All P (for_other v) → All P (slice_index_or A v [])
    handed P v other before more = subst (All P) (sym (dealt.outbox v (λ same. other.1 (same ∙ sym at.seated.port)))) (All-append P (outbox_to x v) (for_other v) before more)

    theirs : (v : ℕ) → IsOther x.port v → All (λ a. (a.to % x.workers ≡ v) × (model.is_valid m a ≡ true)) (slice_index_or A v [])
    theirs v other =
        handed (λ a. (a.to % x.workers ≡ v) × (model.is_valid m a ≡ true)) v other (at.done.theirs v other)
        (All-weaker (λ f. (IsSentBy e.to e f × (model.is_valid m f ≡ true)) × ((f.to % x.workers == v) ≡ true)) (λ f. (f.to % x.workers ≡ v) × (model.is_valid m f ≡ true))
        (λ f h. let test = h.1 in (grind (arith, nat_tests), h.0.1)) (for_other v)
        (all_passing (λ f. IsSentBy e.to e f × (model.is_valid m f ≡ true)) (λ f. f.to % x.workers == v) sent future))

    state_at : (j : ℕ) → slice_get (slice_set x.states k (model.step m e.to now e).0) j
        ≡ option_map (λ s. state_after (y.rules.step (x.number + j * x.workers)) s (J (x.number + j * x.workers))) (slice_get x.starts (x.number + j * x.workers))
    state_at j = by (j == k) refl
      where
        by : (b : Bool) → (j == k) ≡ b → slice_get (slice_set x.states k (model.step m e.to now e).0) j
            ≡ option_map (λ s. state_after (y.rules.step (x.number + j * x.workers)) s (J (x.number + j * x.workers))) (slice_get x.starts (x.number + j * x.workers))
        by true h =
            let same : j ≡ k = grind (arith, nat_tests) in
            let there : x.number + j * x.workers ≡ e.to = ap (λ i. x.number + i * x.workers) same ∙ place in
            let is : state_after (y.rules.step e.to) start.0 (J e.to) ≡ (model.step m e.to now e).0 =
            ap (state_after (y.rules.step e.to) start.0) (next_here at.done.journal e) ∙ after-append (y.rules.step e.to) start.0 (at.done.journal e.to) (e ∷ []) in
            ap (slice_get (slice_set x.states k (model.step m e.to now e).0)) same ∙ get_set-same x.states k now (model.step m e.to now e).0 here ∙ ap Some (sym is)
            ∙ sym (ap (option_map (λ s. state_after (y.rules.step e.to) s (J e.to))) start.1)
            ∙ sym (ap (λ q. option_map (λ s. state_after (y.rules.step q) s (J q)) (slice_get x.starts q)) there)
        by false h =
            let apart : j ≢ k = λ q. grind (arith, nat_tests) in
            let outbox : x.number + j * x.workers ≢ e.to = λ q. apart (sym (number_place x.workers x.number j at.seated.number).0 ∙ ap (λ p. p / x.workers) q) in
            get_set-other x.states k j (model.step m e.to now e).0 apart ∙ at.done.states_are j
            ∙ ap (λ l. option_map (λ s. state_after (y.rules.step (x.number + j * x.workers)) s l) (slice_get x.starts (x.number + j * x.workers))) (sym (next_other at.done.journal e (x.number + j * x.workers) outbox))

    before : (q : ℕ) (a : Event B) → Has y.rules.order (J q) a → a.time < x.until
    before q a h = by (q == e.to) refl
      where
        by : (b : Bool) → (q == e.to) ≡ b → a.time < x.until
        by true t =
            let same : q ≡ e.to = grind (arith, nat_tests) in
            let both = subst (λ l. Has y.rules.order l a) (ap J same ∙ next_here at.done.journal e) h in
            elim (Has-append law.rules.exact a (at.done.journal e.to) (e ∷ []) both) [
              | inl old ↦ at.done.before e.to a old
              | inr new ↦ let least = law.rules.by_time a e (each_of_all law.rules.exact (λ b. AtMost y.rules.order b e) (e ∷ []) (All-cons (λ b. AtMost y.rules.order b e) e [] (least_of e there) (All-nil (λ b. AtMost y.rules.order b e))) a new) in omega (arith, least, soon)
            ]
        by false t = at.done.before q a (subst (λ l. Has y.rules.order l a) (next_other at.done.journal e q (λ same. grind (arith, nat_tests))) h)

    done : HasDone (rules model order m) (record x { states = slice_set x.states k (model.step m e.to now e).0; waiting = Q; outbox = A; reached = e.time })
    done = record { journal = J; partway = partway; own = not_mine; ours = ours; theirs = theirs; none = dealt.none ∙ at.done.none; states_are = state_at; before = before }

    times : IsInTime (record x { states = slice_set x.states k (model.step m e.to now e).0; waiting = Q; outbox = A; reached = e.time })
    times = record {
      until = at.times.until;
      reached = let u = at.times.until.0 in omega (arith, u, soon);
      bound_in = at.times.bound_in;
      told = at.times.told;
      far =
          All-permutation (λ a. x.bound_out ≤ a.time + x.lookahead) (R ++ own) Q dealt.waiting
          (All-append (λ a. x.bound_out ≤ a.time + x.lookahead) R own (rest (λ a. x.bound_out ≤ a.time + x.lookahead) at.times.far)
          (All-filter (λ f. f.to % x.workers == x.number) (λ a. x.bound_out ≤ a.time + x.lookahead) sent
          (All-weaker (λ f. e.time + x.lookahead ≤ f.time) (λ a. x.bound_out ≤ a.time + x.lookahead) (λ f h. omega (arith, h, bound_out_soon)) sent ahead)));
      hears = at.times.hears;
      outbox = λ v other. handed (λ a. (x.until ≤ a.time) × (last_bound (sent_to x.port v) ≤ a.time)) v other (at.times.outbox v other)
          (All-filter (λ f. f.to % x.workers == v) (λ a. (x.until ≤ a.time) × (last_bound (sent_to x.port v) ≤ a.time)) sent
          (All-weaker (λ f. e.time + x.lookahead ≤ f.time) (λ a. (x.until ≤ a.time) × (last_bound (sent_to x.port v) ≤ a.time))
          (λ f h. let told = at.times.told v other in let u = at.times.until.1 in (omega (arith, h, bound_out_soon, u), omega (arith, h, bound_out_soon, told))) sent ahead));
    }

    seated : IsSeated model m (record x { states = slice_set x.states k (model.step m e.to now e).0; waiting = Q; outbox = A; reached = e.time })
    seated = record {
      ready = at.seated.ready;
      ahead = at.seated.ahead;
      number = at.seated.number;
      port = at.seated.port;
      wide = at.seated.wide;
      lists = dealt.lists ∙ at.seated.lists;
      sends = at.seated.sends;
      hears = at.seated.hears;
    }

  -- the event is executed, and what it sent is dealt out
  executed : (x' : ShareState M S B) → IsDealt (record x { states = slice_set x.states k (model.step m e.to now e).0; waiting = R; reached = e.time }) x' sent → IsAtWork model order m x'
  executed x' dealt =
      subst (IsAtWork model order m) (sym dealt.same)
      (let one = subst (λ w. IsDealt (record x { states = slice_set x.states k (model.step m e.to now e).0; waiting = R; reached = e.time }) w sent) dealt.same dealt in
      record { seated = seated x'.waiting x'.outbox one; done = done x'.waiting x'.outbox one; times = times x'.waiting x'.outbox one })

  -- the same of a state, a time and what was sent that are known by equations
  module _ (s : S) (is : s ≡ now) where
    pub fine_here : model.IsWellFormed m e.to s
    fine_here = subst (model.IsWellFormed m e.to) (sym is) fine

    module _ (l : List (Event B)) (sends : l ≡ (model.step m e.to s e).1) (t : ℕ) (reached : t ≡ e.time) where
      sent_is : l ≡ sent
      sent_is = sends ∙ ap (λ w. (model.step m e.to w e).1) is

      pub later_here : All (λ f. t < f.time) l
      later_here = subst (All (λ f. t < f.time)) (sym sent_is) (subst (λ w. All (λ f. w < f.time) sent) (sym reached) later)

      pub executed_here : (s' : S) → s' ≡ (model.step m e.to s e).0 → (x' : ShareState M S B) → IsDealt (record x { states = slice_set x.states k s'; waiting = R; reached = t }) x' l → IsAtWork model order m x'
      executed_here s' next x' dealt =
          executed x'
          (subst (λ w. IsDealt (record x { states = slice_set x.states k w; waiting = R; reached = e.time }) x' sent) (next ∙ ap (λ w. (model.step m e.to w e).0) is)
          (subst (λ w. IsDealt (record x { states = slice_set x.states k s'; waiting = R; reached = w }) x' sent) reached
          (subst (IsDealt (record x { states = slice_set x.states k s'; waiting = R; reached = t }) x') sent_is dealt)))

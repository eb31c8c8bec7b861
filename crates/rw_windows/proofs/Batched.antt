-- What batches weigh, how they begin and how far they reach, and what is left of them on the way.
use Rattle.std.proofs.Common.{◌≡◌, ℕ, zero, suc, ◌+◌, ◌<◌, ◌≤◌, true, List, [], ◌∷◌, ◌++◌, length, take, get_or, append_assoc, append-nil, add-one, refl, sym, ap, ◌∙◌, subst, arith, IfSome}
use Rattle.std.specs.Prelude.{slice_get, slice_index_or, slice_set}
use Rattle.std.proofs.lemmas.List.{take_more}
use Rattle.std.specs.declared.cmp.Ordering.{Ordering}
use Rattle.rw_vt.specs.declared.event.Event.{Event}
use Rattle.rw_vt.specs.declared.model.Model.{Ghosts}
use Rattle.rw_vt.specs.Order.{weigh, Has}
use Rattle.rw_vt.proofs.Sorting.{IsExactOrder, each_of_all}
use Rattle.rw_pool.specs.Sums.{sum_below}
use Rattle.rw_pool.proofs.Sums.{total_same}
use Rattle.rw_windows.specs.Batches.{BatchState, BeginFor, IsFor, MayFollow, events_in, batch_events, last_bound}
use Rattle.rw_windows.proofs.Sums.{weigh-append, weigh_flatten, Has-flatten}

module _ {M B : Type 0} where
  -- what the events of a batch weigh
  abbrev pub of_batch : (Event B → ℕ) → BatchState M B → ℕ
  of_batch h b = weigh h b.events

  weigh_events : (h : Event B → ℕ) (bs : List (BatchState M B)) → weigh h (batch_events bs) ≡ weigh (of_batch h) bs
  weigh_events h [] = refl
  weigh_events h (b ∷ bs) = weigh-append h b.events (batch_events bs) ∙ ap (λ k. weigh h b.events + k) (weigh_events h bs)

  pub weigh_events_in : (h : Event B → ℕ) (lists : List (List (BatchState M B))) → weigh h (events_in lists) ≡ sum_below (length lists) (λ k. weigh (of_batch h) (get_or lists k []))
  weigh_events_in h lists =
      weigh_flatten h batch_events lists []
      ∙ total_same (length lists) (λ k. weigh h (batch_events (get_or lists k []))) (λ k. weigh (of_batch h) (get_or lists k [])) (λ k l. weigh_events h (get_or lists k []))

  -- a batch more weighs what its events weigh
  weigh_behind : (h : Event B → ℕ) (bs : List (BatchState M B)) (b : BatchState M B) → weigh h (batch_events (bs ++ b ∷ [])) ≡ weigh h (batch_events bs) + weigh h b.events
  weigh_behind h [] b = omega (arith, weigh-append h b.events [])
  weigh_behind h (a ∷ bs) b = omega (arith, weigh_behind h bs b, weigh-append h a.events (batch_events (bs ++ b ∷ [])), weigh-append h a.events (batch_events bs))

  -- and so with it at one place of several
  pub weigh_with : (h : Event B → ℕ) (lists : List (List (BatchState M B))) (i : ℕ) (b : BatchState M B) → i < length lists
      → weigh h (events_in (slice_set lists i (slice_index_or lists i [] ++ b ∷ []))) ≡ weigh h (events_in lists) + weigh h b.events
  weigh_with h [] i b l = absurd (omega arith)
  weigh_with h (xs ∷ xss) zero b l =
      omega (arith, weigh_behind h xs b, weigh-append h (batch_events (xs ++ b ∷ [])) (events_in xss), weigh-append h (batch_events xs) (events_in xss))
  weigh_with h (xs ∷ xss) (suc i) b l =
      omega (arith, weigh_with h xss i b (omega arith), weigh-append h (batch_events xs) (events_in (slice_set xss i (slice_index_or xss i [] ++ b ∷ []))), weigh-append h (batch_events xs) (events_in xss))

  -- the last of these batches is the one behind
  pub bound_behind : (bs : List (BatchState M B)) (b : BatchState M B) → last_bound (bs ++ b ∷ []) ≡ b.bound
  bound_behind [] b = refl
  bound_behind (a ∷ []) b = refl
  bound_behind (a ∷ c ∷ bs) b = bound_behind (c ∷ bs) b

  -- with one batch behind them they begin as before
  pub begin_still : (m : M) (n v : ℕ) (bs : List (BatchState M B)) (b : BatchState M B) → BeginFor m n v bs → BeginFor m n v (bs ++ b ∷ [])
  begin_still m n v bs b h = (h.0, h.1 ++ b ∷ [], ap (λ l. l ++ b ∷ []) h.2, h.3)

  -- what may follow batches that begin for some worker is for that worker
  pub follows_terms : (m : M) (n v : ℕ) (bs : List (BatchState M B)) (b : BatchState M B) → BeginFor m n v bs → IsFor m n v b → IfSome (slice_get bs 0) (λ a. IsFor a.model a.workers a.to b)
  follows_terms m n v bs b h k = subst (λ l. IfSome (slice_get l 0) (λ a. IsFor a.model a.workers a.to b)) (sym h.2)
      (record { model = k.model ∙ sym h.3.model; workers = k.workers ∙ sym h.3.workers; to = k.to ∙ sym h.3.to })

  -- batches that follow one another
  module _ {S U : Type 0} (model : Ghosts M S B U) (before xs : List (BatchState M B))
      (allowed : (i : ℕ) (d : BatchState M B) → i < length xs → MayFollow model (before ++ take i xs) (get_or xs i d)) where
    rises : (d : BatchState M B) (j : ℕ) → j ≤ length xs → last_bound before ≤ last_bound (before ++ take j xs)
    rises d zero l = let e = ap last_bound (append-nil before) in omega (arith, e)
    rises d (suc j) l =
        let within : j < length xs = omega (arith, l) in
        let ih = rises d j (omega (arith, l)) in
        let next = (allowed j d within).further in
        let more : take (suc j) xs ≡ take j xs ++ get_or xs j d ∷ [] = ap (λ i. take i xs) (sym (add-one j)) ∙ take_more xs j d within in
        let is : last_bound (before ++ take (suc j) xs) ≡ (get_or xs j d).bound =
        ap (λ z. last_bound (before ++ z)) more ∙ ap last_bound (sym (append_assoc before (take j xs) (get_or xs j d ∷ []))) ∙ bound_behind (before ++ take j xs) (get_or xs j d)
        in
        omega (arith, ih, next, is)

    module _ {cmp : Event B → Event B → Ordering} (o : IsExactOrder cmp) (m : M) (n v : ℕ) (begins : BeginFor m n v before) where
      terms : (c b : BatchState M B) (rest zs : List (BatchState M B)) → before ≡ c ∷ rest → IfSome (slice_get (before ++ zs) 0) (λ a. IsFor a.model a.workers a.to b) → IsFor c.model c.workers c.to b
      terms c b rest zs is h = subst (λ l. IfSome (slice_get (l ++ zs) 0) (λ a. IsFor a.model a.workers a.to b)) is h

      -- their events are valid, and not before the last reach of those before them
      pub left_events : (d : BatchState M B) (a : Event B) → Has cmp (batch_events xs) a → (model.is_valid m a ≡ true) × (last_bound before ≤ a.time)
      left_events d a h =
          let found = Has-flatten o (λ b. b.events) xs a d h in
          let j = found.0 in
          let b = get_or xs found.0 d in
          let it = allowed found.0 d found.1 in
          let same = terms begins.0 b begins.1 (take found.0 xs) begins.2 it.terms in
          let valid = each_of_all o (λ e. model.is_valid b.model e ≡ true) b.events it.valid a found.2 in
          let late = each_of_all o (λ e. last_bound (before ++ take found.0 xs) ≤ e.time) b.events it.in_time a found.2 in
          let rise = rises d found.0 (omega (arith, found.1)) in
          (subst (λ z. model.is_valid z a ≡ true) (same.model ∙ begins.3.model) valid, omega (arith, late, rise))

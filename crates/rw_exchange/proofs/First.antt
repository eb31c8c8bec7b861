-- Rings through which first items went, as they grow.
use Rattle.std.proofs.Common.{◌≡◌, ◌≢◌, ℕ, zero, suc, ◌+◌, ◌<◌, refl, map, List, [], ◌∷◌, ◌++◌, length, get_or, sym, ap, ◌∙◌, subst, All, Option, Some, None, not, false, true≢false, is_some, eq-eqb, arith}
use Rattle.std.proofs.lemmas.List.{get_or-map, get_or_push, get_or_append_left, length-append, length-map}
use Rattle.std.proofs.lemmas.List.Elements.{All-nil, All-cons, All-head, All-tail}
use native.Mathlib.Decide.{ℕ_discrete}
use Rattle.rw_exchange.specs.Rings.{Ring, Column, Row, Out, In, cell, AreCrossed, in_ring, in_received, in_table, out_ring, out_table, out_sent, sent_table, received_table, NothingSent, NothingReceived, NothingReceivedAtAll, push_each}
use Rattle.rw_exchange.specs.Ports.{PortState, IsNew, entry, items_of, HasRowFirst, HaveTablesFirst}
use Rattle.rw_exchange.proofs.Crossing.{at_or_before, push_get, all_nothing}

module _ {T : Type 0} where
  -- one more ring in a row
  pub first_more : (own : ℕ) (first : ℕ → Option T) (xs : List (List T)) (x : List T) (n : ℕ) → length xs ≡ n → HasRowFirst own first xs → (own ≢ n → x ≡ items_of (first n)) → HasRowFirst own first (xs ++ x ∷ [])
  first_more own first xs x n long all mine k lt =
      at_or_before (λ k. own ≢ k → get_or (xs ++ x ∷ []) k [] ≡ items_of (first k)) n k (subst (λ z. k < z) (length-append xs (x ∷ []) ∙ ap (λ z. z + 1) long) lt)
      (λ before other. get_or_append_left xs (x ∷ []) [] k (omega (arith, long)) ∙ all k (omega (arith, long)) other)
      (λ other. get_or_push xs x [] n long ∙ mine other) (ℕ_discrete k n)

  module _ (n m : ℕ) (first : ℕ → ℕ → Option T) (rows columns : List (List (List T))) (r : List (List T)) (senders : length rows ≡ m) (receivers : length columns ≡ n) (deep : All (λ (c : List (List T)). length c ≡ m) columns) (long : length r ≡ n) where
    column : (j : ℕ) → j < n → get_or (push_each columns r) j [] ≡ get_or columns j [] ++ get_or r j [] ∷ []
    column j l = push_get columns r j [] (omega (arith, receivers)) (long ∙ sym receivers)

    -- one more row of rings
    pub all_first_more : HaveTablesFirst n m first rows columns → HasRowFirst m (first m) r → HaveTablesFirst n (m + 1) first (rows ++ r ∷ []) (push_each columns r)
    all_first_more all mine i j l k other =
        let depth : length (get_or columns j []) ≡ m = deep j [] (omega (arith, receivers)) in
        at_or_before (λ i. i ≢ j → (entry (rows ++ r ∷ []) i j ≡ items_of (first i j)) × (entry (push_each columns r) j i ≡ items_of (first i j))) m i l
        (λ before other. let was = all i j before k other in (
          ap (λ xs. get_or xs j []) (get_or_append_left rows (r ∷ []) [] i (omega (arith, senders))) ∙ was.0,
          ap (λ xs. get_or xs i []) (column j k) ∙ (get_or_append_left (get_or columns j []) (get_or r j [] ∷ []) [] i (omega (arith, depth)) ∙ was.1),
        ))
        (λ other. let here = mine j (omega (arith, long)) other in (
          ap (λ xs. get_or xs j []) (get_or_push rows r [] m senders) ∙ here,
          ap (λ xs. get_or xs m []) (column j k) ∙ (get_or_push (get_or columns j []) (get_or r j []) [] m depth ∙ here),
        )) (ℕ_discrete i m) other

module _ {T P : Type 0} where
  -- each column has as many lists as rings
  pub as_deep : (columns : List (Column T P)) (m : ℕ) → All (λ (c : List (Option Ring)). length c ≡ m) (in_table columns) → All (λ (c : List (List T)). length c ≡ m) (received_table columns)
  as_deep [] m deep = All-nil (λ (c : List (List T)). length c ≡ m)
  as_deep (c ∷ cs) m deep = All-cons (λ (c : List (List T)). length c ≡ m) (map in_received c.items) (received_table cs)
      (length-map c.items in_received ∙ (sym (length-map c.items in_ring) ∙ All-head (λ (c : List (Option Ring)). length c ≡ m) (map in_ring c.items) (in_table cs) deep))
      (as_deep cs m (All-tail (λ (c : List (Option Ring)). length c ≡ m) (map in_ring c.items) (in_table cs) deep))

  -- where nothing was sent and nothing received, all ports are new
  nothing_sent : (rows : List (Row T P)) → All (λ (r : Row T P). All NothingSent r.items) rows → (i j : ℕ) → entry (sent_table rows) i j ≡ []
  nothing_sent [] all i j = refl
  nothing_sent (r ∷ rs) all zero j = all_nothing out_sent r.items (All-head (λ (r : Row T P). All NothingSent r.items) r rs all) j
  nothing_sent (r ∷ rs) all (suc i) j = nothing_sent rs (All-tail (λ (r : Row T P). All NothingSent r.items) r rs all) i j

  nothing_received : (columns : List (Column T P)) → NothingReceivedAtAll columns → (i j : ℕ) → entry (received_table columns) i j ≡ []
  nothing_received [] all i j = refl
  nothing_received (c ∷ cs) all zero j = all_nothing in_received c.items (All-head (λ (c : Column T P). All NothingReceived c.items) c cs all) j
  nothing_received (c ∷ cs) all (suc i) j = nothing_received cs (All-tail (λ (c : Column T P). All NothingReceived c.items) c cs all) i j

  pub all_new : (ps : List (PortState T)) (rows : List (Row T P)) (columns : List (Column T P)) → map (λ (p : PortState T). p.sent) ps ≡ sent_table rows → map (λ (p : PortState T). p.received) ps ≡ received_table columns
      → All (λ (r : Row T P). All NothingSent r.items) rows → NothingReceivedAtAll columns → All IsNew ps
  all_new ps rows columns sent received none none' = λ k d lt. (
    λ j. ap (λ z. get_or z j []) (sym (get_or-map (λ (p : PortState T). p.sent) ps k d [] lt)) ∙ (ap (λ z. entry z k j) sent ∙ nothing_sent rows none k j),
    λ j. ap (λ z. get_or z j []) (sym (get_or-map (λ (p : PortState T). p.received) ps k d [] lt)) ∙ (ap (λ z. entry z k j) received ∙ nothing_received columns none' k j),
  )

module _ {T P : Type 0} where
  -- no ring, so nothing that went in or came out
  no_out : (x : Out T P) → is_some (out_ring x) ≡ false → out_sent x ≡ []
  no_out None h = refl
  no_out (Some p) h = absurd (true≢false h)

  no_in : (x : In T P) → is_some (in_ring x) ≡ false → in_received x ≡ []
  no_in None h = refl
  no_in (Some c) h = absurd (true≢false h)

  out_cell : (row : List (Out T P)) (j : ℕ) → is_some (get_or (map out_ring row) j None) ≡ false → get_or (map out_sent row) j [] ≡ []
  out_cell [] j h = refl
  out_cell (x ∷ xs) zero h = no_out x h
  out_cell (x ∷ xs) (suc j) h = out_cell xs j h

  in_cell : (column : List (In T P)) (j : ℕ) → is_some (get_or (map in_ring column) j None) ≡ false → get_or (map in_received column) j [] ≡ []
  in_cell [] j h = refl
  in_cell (x ∷ xs) zero h = no_in x h
  in_cell (x ∷ xs) (suc j) h = in_cell xs j h

  out_row : (rows : List (Row T P)) (i j : ℕ) → is_some (cell (out_table rows) i j) ≡ false → entry (sent_table rows) i j ≡ []
  out_row [] i j h = refl
  out_row (r ∷ rs) zero j h = out_cell r.items j h
  out_row (r ∷ rs) (suc i) j h = out_row rs i j h

  in_row : (columns : List (Column T P)) (i j : ℕ) → is_some (cell (in_table columns) i j) ≡ false → entry (received_table columns) i j ≡ []
  in_row [] i j h = refl
  in_row (r ∷ rs) zero j h = in_cell r.items j h
  in_row (r ∷ rs) (suc i) j h = in_row rs i j h

  -- no worker has sent to itself, or received from itself
  pub none_itself : (n : ℕ) (rows : List (Row T P)) (columns : List (Column T P)) → AreCrossed n n (out_table rows) (in_table columns) → (i : ℕ) → i < n
      → (entry (sent_table rows) i i ≡ []) × (entry (received_table columns) i i ≡ [])
  none_itself n rows columns crossed i within =
      let wide : length (get_or (out_table rows) i []) ≡ n = crossed.wide i [] (omega (arith, crossed.senders)) in
      let none : is_some (cell (out_table rows) i i) ≡ false = crossed.others i within i (omega (arith, wide)) ∙ ap not (eq-eqb i i refl) in
      (out_row rows i i none, in_row columns i i (ap is_some (sym (crossed.paired i i within within)) ∙ none))

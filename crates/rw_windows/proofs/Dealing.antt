-- What an event sent, dealt out.
use Rattle.std.proofs.Common.{◌≡◌, ◌≢◌, ℕ, ◌+◌, ◌<◌, ◌%◌, Bool, true, false, cond, ◌==◌, List, [], ◌∷◌, ◌++◌, length, refl, sym, ◌∙◌, ap, subst, arith, append_assoc, append-nil, filter, slice_index_or, slice_set, IsPermutation}
use Rattle.std.proofs.lemmas.Bool.Decides.{nat_tests}
use Rattle.std.proofs.lemmas.List.{length-set, get_or-set_other}
use Rattle.std.proofs.lemmas.Grind.{get_or-set_at}
use Rattle.std.proofs.lemmas.List.Elements.{filter-append}
use Rattle.std.proofs.lemmas.List.Sorted.{IsPermutation-refl, IsPermutation-append_left, IsPermutation-trans}
use Rattle.rw_vt.specs.declared.event.Event.{Event}
use Rattle.rw_vt.specs.Order.{weigh}
use Rattle.rw_vt.specs.System.{flatten}
use Rattle.rw_windows.specs.Working.{IsDealt, ShareState, outbox_to}
use Rattle.rw_windows.proofs.Sums.{weigh-append, weigh-flatten_set, weigh_permuted}

-- the tests of one event, by where it goes
one_here : {X : Type 0} (x : X) (b : Bool) → b ≡ true → cond b (x ∷ []) [] ≡ x ∷ []
one_here x true h = refl
one_here x false h = cc

none_here : {X : Type 0} (x : X) (b : Bool) → b ≡ false → cond b (x ∷ []) [] ≡ []
none_here x true h = cc
none_here x false h = refl

module _ {M S B : Type 0} where
  pub dealt_none : (x : ShareState M S B) → IsDealt x x []
  dealt_none x = record {
    same = refl;
    lists = refl;
    waiting = subst (λ l. IsPermutation l x.waiting) (sym (append-nil x.waiting)) (IsPermutation-refl x.waiting);
    outbox = λ v other. sym (append-nil (outbox_to x v));
    none = refl;
    all = λ h. omega arith;
  }

  -- by a worker that is known by an equation
  pub dealt_by : (w x y : ShareState M S B) (sent : List (Event B)) → x ≡ w → IsDealt x y sent → IsDealt w y sent
  dealt_by w x y sent is dealt = subst (λ v. IsDealt v y sent) is dealt

  pub dealt_then : (a b c : ShareState M S B) (xs ys : List (Event B)) → IsDealt a b xs → IsDealt b c ys → IsDealt a c (xs ++ ys)
  dealt_then a b c xs ys first second = record { same = same; lists = second.lists ∙ first.lists; waiting = waiting; outbox = outbox; none = none; all = all }
    where
      number : b.number ≡ a.number
      number = ap (λ (w : ShareState M S B). w.number) first.same

      workers : b.workers ≡ a.workers
      workers = ap (λ (w : ShareState M S B). w.workers) first.same

      same : c ≡ record a { waiting = c.waiting; outbox = c.outbox }
      same = second.same ∙ ap (λ (w : ShareState M S B). record w { waiting = c.waiting; outbox = c.outbox }) first.same

      own : (w n : ℕ) → List (Event B) → List (Event B)
      own w n l = filter (λ e. e.to % w == n) l

      waiting : IsPermutation (a.waiting ++ own a.workers a.number (xs ++ ys)) c.waiting
      waiting =
          let one = IsPermutation-append_left (own a.workers a.number ys) (a.waiting ++ own a.workers a.number xs) b.waiting first.waiting in
          let two = subst (λ n. IsPermutation (b.waiting ++ own a.workers n ys) c.waiting) number (subst (λ w. IsPermutation (b.waiting ++ own w b.number ys) c.waiting) workers second.waiting) in
          let both = IsPermutation-trans ((a.waiting ++ own a.workers a.number xs) ++ own a.workers a.number ys) (b.waiting ++ own a.workers a.number ys) c.waiting one two in
          subst (λ l. IsPermutation l c.waiting)
          (append_assoc a.waiting (own a.workers a.number xs) (own a.workers a.number ys) ∙ ap (λ l. a.waiting ++ l) (sym (filter-append (λ e. e.to % a.workers == a.number) xs ys)))
          both

      outbox : (v : ℕ) → v ≢ a.number → outbox_to c v ≡ outbox_to a v ++ own a.workers v (xs ++ ys)
      outbox v other =
          second.outbox v (subst (λ n. v ≢ n) (sym number) other) ∙ ap (λ w. outbox_to b v ++ own w v ys) workers
          ∙ ap (λ l. l ++ own a.workers v ys) (first.outbox v other)
          ∙ append_assoc (outbox_to a v) (own a.workers v xs) (own a.workers v ys)
          ∙ ap (λ l. outbox_to a v ++ l) (sym (filter-append (λ e. e.to % a.workers == v) xs ys))

      none : outbox_to c a.number ≡ outbox_to a a.number
      none = ap (outbox_to c) (sym number) ∙ second.none ∙ ap (outbox_to b) number ∙ first.none

      all : (h : Event B → ℕ) → weigh h c.waiting + weigh h (flatten c.outbox) ≡ (weigh h a.waiting + weigh h (flatten a.outbox)) + weigh h (xs ++ ys)
      all h = omega (arith, first.all h, second.all h, weigh-append h xs ys)

  -- it stays with the worker
  pub dealt_own : (x y : ShareState M S B) (e : Event B) → y ≡ record x { waiting = y.waiting } → IsPermutation (x.waiting ++ e ∷ []) y.waiting → e.to % x.workers ≡ x.number → IsDealt x y (e ∷ [])
  dealt_own x y e same moved here = record { same = same ∙ ap (λ (l : List (List (Event B))). record x { waiting = y.waiting; outbox = l }) (sym outboxes); lists = ap (length {A = List (Event B)}) outboxes; waiting = waiting; outbox = outbox; none = ap (λ (l : List (List (Event B))). slice_index_or l x.number []) outboxes; all = all }
    where
      outboxes : y.outbox ≡ x.outbox
      outboxes = ap (λ (w : ShareState M S B). w.outbox) same

      test : (e.to % x.workers == x.number) ≡ true
      test = grind (arith, nat_tests)

      waiting : IsPermutation (x.waiting ++ cond (e.to % x.workers == x.number) (e ∷ []) []) y.waiting
      waiting = subst (λ l. IsPermutation (x.waiting ++ l) y.waiting) (sym (one_here e (e.to % x.workers == x.number) test)) moved

      outbox : (v : ℕ) → v ≢ x.number → outbox_to y v ≡ outbox_to x v ++ cond (e.to % x.workers == v) (e ∷ []) []
      outbox v other =
          let not : (e.to % x.workers == v) ≡ false = grind (arith, nat_tests) in
          ap (λ (l : List (List (Event B))). slice_index_or l v []) outboxes ∙ sym (append-nil (outbox_to x v)) ∙ ap (λ l. outbox_to x v ++ l) (sym (none_here e (e.to % x.workers == v) not))

      all : (h : Event B → ℕ) → weigh h y.waiting + weigh h (flatten y.outbox) ≡ (weigh h x.waiting + weigh h (flatten x.outbox)) + (h e + 0)
      all h = omega (arith, ap (λ (l : List (List (Event B))). weigh h (flatten l)) outboxes, weigh_permuted h (x.waiting ++ e ∷ []) y.waiting moved, weigh-append h x.waiting (e ∷ []))

  -- it is to be handed over
  pub dealt_outbox : (x y : ShareState M S B) (e : Event B) (t : ℕ) → t ≡ e.to % x.workers → y ≡ record x { outbox = y.outbox } → y.outbox ≡ slice_set x.outbox t (outbox_to x t ++ e ∷ []) → t ≢ x.number → t < length x.outbox → IsDealt x y (e ∷ [])
  dealt_outbox x y e t is same outboxes other inside = record {
    same = same ∙ ap (λ (l : List (Event B)). record x { waiting = l; outbox = y.outbox }) (sym waits);
    lists = ap (length {A = List (Event B)}) outboxes ∙ length-set x.outbox t (outbox_to x t ++ e ∷ []);
    waiting = waiting;
    outbox = outbox;
    none = none;
    all = all;
  }
    where
      waits : y.waiting ≡ x.waiting
      waits = ap (λ (w : ShareState M S B). w.waiting) same

      waiting : IsPermutation (x.waiting ++ cond (e.to % x.workers == x.number) (e ∷ []) []) y.waiting
      waiting =
          let not : (e.to % x.workers == x.number) ≡ false = grind (arith, nat_tests) in
          subst (IsPermutation (x.waiting ++ cond (e.to % x.workers == x.number) (e ∷ []) [])) (sym waits)
          (subst (λ l. IsPermutation l x.waiting) (sym (ap (λ l. x.waiting ++ l) (none_here e (e.to % x.workers == x.number) not) ∙ append-nil x.waiting)) (IsPermutation-refl x.waiting))

      outbox : (v : ℕ) → v ≢ x.number → outbox_to y v ≡ outbox_to x v ++ cond (e.to % x.workers == v) (e ∷ []) []
      outbox v k = ap (λ (l : List (List (Event B))). slice_index_or l v []) outboxes ∙ by (v == t) refl
        where
          by : (b : Bool) → (v == t) ≡ b → slice_index_or (slice_set x.outbox t (outbox_to x t ++ e ∷ [])) v [] ≡ outbox_to x v ++ cond (e.to % x.workers == v) (e ∷ []) []
          by true h =
              let at : v ≡ t = grind (arith, nat_tests) in
              let test : (e.to % x.workers == v) ≡ true = grind (arith, nat_tests) in
              get_or-set_at x.outbox t v (outbox_to x t ++ e ∷ []) [] at inside ∙ ap (λ n. outbox_to x n ++ e ∷ []) (sym at)
              ∙ ap (λ l. outbox_to x v ++ l) (sym (one_here e (e.to % x.workers == v) test))
          by false h =
              let apart : v ≢ t = λ q. grind (arith, nat_tests) in
              let not : (e.to % x.workers == v) ≡ false = grind (arith, nat_tests) in
              get_or-set_other x.outbox t v (outbox_to x t ++ e ∷ []) [] apart ∙ sym (append-nil (outbox_to x v))
              ∙ ap (λ l. outbox_to x v ++ l) (sym (none_here e (e.to % x.workers == v) not))

      none : outbox_to y x.number ≡ outbox_to x x.number
      none = ap (λ (l : List (List (Event B))). slice_index_or l x.number []) outboxes ∙ get_or-set_other x.outbox t x.number (outbox_to x t ++ e ∷ []) [] (λ q. other (sym q))

      all : (h : Event B → ℕ) → weigh h y.waiting + weigh h (flatten y.outbox) ≡ (weigh h x.waiting + weigh h (flatten x.outbox)) + (h e + 0)
      all h =
          omega (
            arith,
            ap (weigh h) waits,
            ap (λ (l : List (List (Event B))). weigh h (flatten l)) outboxes,
            weigh-flatten_set h x.outbox t (outbox_to x t ++ e ∷ []) inside,
            weigh-append h (outbox_to x t) (e ∷ []),
          )

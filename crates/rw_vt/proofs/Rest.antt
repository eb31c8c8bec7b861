-- A run that is left off: from the states and the events that it leaves, it ends as it would have.
use Rattle.std.proofs.Common.{◌≡◌, ℕ, zero, suc, ◌+◌, ◌<◌, true, cond, ◌&&◌, ◌==◌, List, [], ◌∷◌, ◌++◌, length, refl, sym, ◌∙◌, ap, subst, arith, Some, filter, inl, inr, zero-add}
use Rattle.std.proofs.lemmas.Bool.{cases_lt}
use Rattle.std.proofs.lemmas.Bool.Decides.{nat_tests}
use Rattle.std.proofs.lemmas.List.Elements.{All-weaker}
use Rattle.std.specs.declared.cmp.Ordering.{Ordering}
use Rattle.std.specs.List.{slice_get, All}
use Rattle.rw_vt.specs.Words.{Time}
use Rattle.rw_vt.specs.Limits.{end_of_time}
use Rattle.rw_vt.specs.declared.event.Event.{Event}
use Rattle.rw_vt.specs.Valid.{IsInRange}
use Rattle.rw_vt.specs.Order.{AtMost, copies, Has, IsAscending}
use Rattle.rw_vt.specs.System.{Rules, System, state_after, sends_of, map_from, flatten, all_sent, slice, journal_below}
use Rattle.rw_vt.specs.Rest.{AreLastStates, EndsAs, MayCome, IsRestOf}
use Rattle.rw_vt.proofs.Sorting.{IsExactOrder, at_most_itself, at_most_chain, IsAscending-append, IsAscending-in_order, copies-append, copies-filter, copies-in_order, absent, Has-append, Has-head, Has-tail, each_of_all}
use Rattle.rw_vt.proofs.Runs.{AreLawful, IsLawful, Fits_at, earlier_at_most, each_sent, outs-append, after-append, well_formed_after}
use Rattle.rw_vt.proofs.Slices.{before_all, IsStory, IsExactBelow, agree_below}
use Rattle.rw_vt.proofs.Complete.{IsMidway, Has-slice, same_sent}

-- Lists that give one element for each process

length-made : {A C : Type 0} (k : ℕ) (f : ℕ → A → C) (xs : List A) → length (map_from k f xs) ≡ length xs
length-made k f [] = refl
length-made k f (x ∷ xs) = ap suc (length-made (k + 1) f xs)

pub made_twice : {A C D : Type 0} (k : ℕ) (f : ℕ → A → C) (g : ℕ → C → D) (xs : List A) → map_from k g (map_from k f xs) ≡ map_from k (λ q x. g q (f q x)) xs
made_twice k f g [] = refl
made_twice k f g (x ∷ xs) = ap (λ l. g k (f k x) ∷ l) (made_twice (k + 1) f g xs)

joined : {C : Type 0} {a b : C} {ys bs : List C} → a ≡ b → ys ≡ bs → (a ∷ ys) ≡ (b ∷ bs)
joined p q = cc

pub made_alike : {A C : Type 0} (k : ℕ) (f g : ℕ → A → C) (xs : List A) → ((q : ℕ) (x : A) → f q x ≡ g q x) → map_from k f xs ≡ map_from k g xs
made_alike k f g [] h = refl
made_alike k f g (x ∷ xs) h = joined (h k x) (made_alike (k + 1) f g xs h)

pub made_itself : {A : Type 0} (k : ℕ) (f : ℕ → A → A) (xs : List A) → ((q : ℕ) (x : A) → f q x ≡ x) → xs ≡ map_from k f xs
made_itself k f [] h = refl
made_itself k f (x ∷ xs) h = joined (sym (h k x)) (made_itself (k + 1) f xs h)

-- what stands at i is made of what stood there
pub made_of : {A C : Type 0} (k i : ℕ) (f : ℕ → A → C) (xs : List A) (c : C) → slice_get (map_from k f xs) i ≡ Some c → (x : A) × (slice_get xs i ≡ Some x) × (c ≡ f (k + i) x)
made_of k i f [] c h = absurd (cc)
made_of k zero f (x ∷ xs) c h = let is : c ≡ f k x = cc in let at : k ≡ k + 0 = omega arith in (x, refl, is ∙ ap (λ n. f n x) at)
made_of k (suc i) f (x ∷ xs) c h = let r = made_of (k + 1) i f xs c h in let at : (k + 1) + i ≡ k + suc i = omega arith in (r.0, r.1, r.2 ∙ ap (λ n. f n r.0) at)

-- the joined lists of places where there is none
pub none_joined : {A E : Type 0} (k : ℕ) (f : ℕ → A → List E) (xs : List A) → ((q : ℕ) (x : A) → f q x ≡ []) → flatten (map_from k f xs) ≡ []
none_joined k f [] h = refl
none_joined k f (x ∷ xs) h = ap (λ l. l ++ flatten (map_from (k + 1) f xs)) (h k x) ∙ none_joined (k + 1) f xs h

module _ {A E : Type 0} {cmp : E → E → Ordering} (o : IsExactOrder cmp) where
  -- what stands in the joined lists stands in one of them
  pub Has-joined : (k : ℕ) (f : ℕ → A → List E) (xs : List A) (e : E) → Has cmp (flatten (map_from k f xs)) e → (i : ℕ) × (x : A) × (slice_get xs i ≡ Some x) × Has cmp (f (k + i) x) e
  Has-joined k f [] e h = absurd (omega arith)
  Has-joined k f (x ∷ xs) e h = elim (Has-append o e (f k x) (flatten (map_from (k + 1) f xs)) h) [
    | inl m ↦ let at : k ≡ k + 0 = omega arith in (0, x, refl, subst (λ n. Has cmp (f n x) e) at m)
    | inr m ↦ let r = Has-joined (k + 1) f xs e m in let at : (k + 1) + r.0 ≡ k + suc r.0 = omega arith in (suc r.0, r.1, r.2, subst (λ n. Has cmp (f n r.1) e) at r.3)
  ]

  -- lists that fall into two parts at each place
  pub copies_in_parts : (e : E) (k : ℕ) (f g h : ℕ → A → List E) (xs : List A) → ((q : ℕ) (x : A) → f q x ≡ g q x ++ h q x)
      → copies cmp e (flatten (map_from k f xs)) ≡ copies cmp e (flatten (map_from k g xs)) + copies cmp e (flatten (map_from k h xs))
  copies_in_parts e k f g h [] parts = omega arith
  copies_in_parts e k f g h (x ∷ xs) parts =
      let rest = copies_in_parts e (k + 1) f g h xs parts in
      let here = ap (copies cmp e) (parts k x) ∙ copies-append o e (g k x) (h k x) in
      copies-append o e (f k x) (flatten (map_from (k + 1) f xs))
      ∙ omega (arith, rest, here, copies-append o e (g k x) (flatten (map_from (k + 1) g xs)), copies-append o e (h k x) (flatten (map_from (k + 1) h xs)))

-- The journals below t hold what they are to hold

not_at : (k t u n : ℕ) → k < t → cond ((k == t) && (u == u)) n 0 ≡ 0
not_at k t u n l = grind (arith, nat_tests)

all_at : (k t u n : ℕ) → k ≡ t → cond ((k == t) && (u == u)) n 0 ≡ n
all_at k t u n e = grind (arith, nat_tests)

module _ {S B : Type 0} {y : Rules S B} {WellFormed : ℕ → S → Type 0} (law : AreLawful y WellFormed) where
  -- what is sent is later than an event that was executed, and valid
  pub sent_by : (p : ℕ) (s : S) (xs : List (Event B)) (e : Event B) → WellFormed p s → Fits_at y p xs → Has y.order (sends_of (y.step p) s xs) e
      → (x : Event B) × Has y.order xs x × (x.time < e.time) × (y.valid e ≡ true)
  sent_by p s [] e w f h = absurd (omega arith)
  sent_by p s (x ∷ xs) e w f h =
      let o = law.exact in
      let at = f x (Has-head o x xs) in
      elim (Has-append o e (y.step p s x).1 (sends_of (y.step p) (y.step p s x).0 xs) h) [
        | inl m ↦ let sent = each_sent law p s x e w at.1 at.0 m in (x, Has-head o x xs, sent.1, sent.0)
        | inr m ↦
            let r = sent_by p (y.step p s x).0 xs e (law.keeps p s x w at.1 at.0) (λ a k. f a (Has-tail o a x xs k)) m in
            (r.0, Has-tail o r.0 x xs r.1, r.2, r.3)
      ]

-- journals of events of times below t, all that are sent of such times, each at least an initial event
pub record IsDoneBelow {S B : Type 0} (y : System S B) (t : ℕ) (J : ℕ → List (Event B)) : Type 0 where
  pub story : IsStory y.rules J
  pub early : (q : ℕ) (a : Event B) → Has y.rules.order (J q) a → a.time < t
  pub exact : IsExactBelow y t J
  pub after : (q : ℕ) (a : Event B) → Has y.rules.order (J q) a → (c : Event B) × Has y.rules.order y.initial c × AtMost y.rules.order c a

module _ {S B : Type 0} (y : System S B) {WellFormed : ℕ → S → Type 0} (law : IsLawful y WellFormed) where
  done_none : IsDoneBelow y 0 (λ q. [])
  done_none = record {
    story = record { fit = λ p a h. absurd (omega arith); up = λ p. tt };
    early = λ q a h. absurd (omega arith);
    exact = λ e l. absurd (omega arith);
    after = λ q a h. absurd (omega arith);
  }

  done_next : (t : ℕ) (J : ℕ → List (Event B)) → IsDoneBelow y t J → IsDoneBelow y (suc t) (λ q. J q ++ slice y (all_sent y J) t q)
  done_next t J done = record { story = record { fit = fit; up = up }; early = early; exact = exact; after = after }
    where
      sent_at : (a : Event B) (p : ℕ) (s : S) → slice_get y.starts p ≡ Some s → Has y.rules.order (sends_of (y.rules.step p) s (J p)) a
          → ((c : Event B) × Has y.rules.order y.initial c × AtMost y.rules.order c a) × (y.rules.valid a ≡ true)
      sent_at a p s m h =
          let r = sent_by law.rules p s (J p) a (law.starts p s m) (done.story.fit p) h in
          let c = done.after p r.0 r.1 in
          ((c.0, c.1, at_most_chain law.rules.exact c.0 r.0 a c.2 (earlier_at_most law.rules r.0 a r.2)), r.3)

      from_sent : (a : Event B) → Has y.rules.order (all_sent y J) a → ((c : Event B) × Has y.rules.order y.initial c × AtMost y.rules.order c a) × (y.rules.valid a ≡ true)
      from_sent a h = elim (Has-append law.rules.exact a y.initial (flatten (map_from 0 (λ p s. sends_of (y.rules.step p) s (J p)) y.starts)) h) [
        | inl m ↦ ((a, m, at_most_itself law.rules.exact a), law.initial a m)
        | inr m ↦
            let found = Has-joined law.rules.exact 0 (λ p s. sends_of (y.rules.step p) s (J p)) y.starts a m in
            sent_at a found.0 found.1 found.2 (subst (λ n. Has y.rules.order (sends_of (y.rules.step n) found.1 (J n)) a) (zero-add found.0) found.3)
      ]

      fit_slice : (p : ℕ) → Fits_at y.rules p (slice y (all_sent y J) t p)
      fit_slice p a h = let found = Has-slice y law (all_sent y J) t p a h in (found.2, (from_sent a found.0).1)

      fit : (p : ℕ) → Fits_at y.rules p (J p ++ slice y (all_sent y J) t p)
      fit p a h = elim (Has-append law.rules.exact a (J p) (slice y (all_sent y J) t p) h) [ inl m ↦ done.story.fit p a m | inr m ↦ fit_slice p a m ]

      up : (p : ℕ) → IsAscending y.rules.order (J p ++ slice y (all_sent y J) t p)
      up p =
          IsAscending-append law.rules.exact (J p) (slice y (all_sent y J) t p) (done.story.up p) (IsAscending-in_order law.rules.exact (filter (λ e. (e.time == t) && (e.to == p)) (all_sent y J)))
          (λ a b h k. let l = done.early p a h in let e = (Has-slice y law (all_sent y J) t p b k).1 in earlier_at_most law.rules a b (omega arith))

      early : (p : ℕ) (a : Event B) → Has y.rules.order (J p ++ slice y (all_sent y J) t p) a → a.time < suc t
      early p a h = elim (Has-append law.rules.exact a (J p) (slice y (all_sent y J) t p) h) [
        | inl m ↦ let l = done.early p a m in omega arith
        | inr m ↦ let e = (Has-slice y law (all_sent y J) t p a m).1 in omega arith
      ]

      after : (p : ℕ) (a : Event B) → Has y.rules.order (J p ++ slice y (all_sent y J) t p) a → (c : Event B) × Has y.rules.order y.initial c × AtMost y.rules.order c a
      after p a h = elim (Has-append law.rules.exact a (J p) (slice y (all_sent y J) t p) h) [
        | inl m ↦ done.after p a m
        | inr m ↦ (from_sent a (Has-slice y law (all_sent y J) t p a m).0).0
      ]

      in_slice : (e : Event B) → copies y.rules.order e (slice y (all_sent y J) t e.to) ≡ cond ((e.time == t) && (e.to == e.to)) (copies y.rules.order e (all_sent y J)) 0
      in_slice e =
          let o = law.rules.exact in
          copies-in_order o e (filter (λ f. (f.time == t) && (f.to == e.to)) (all_sent y J)) ∙ copies-filter o (λ f. (f.time == t) && (f.to == e.to)) e (all_sent y J)

      counts : (e : Event B) → e.time < suc t → copies y.rules.order e (J e.to) + copies y.rules.order e (slice y (all_sent y J) t e.to) ≡ copies y.rules.order e (all_sent y J)
      counts e l = elim (cases_lt e.time t) [
        | inl k ↦
            let none = in_slice e ∙ not_at e.time t e.to (copies y.rules.order e (all_sent y J)) k in
            omega (arith, none, done.exact e k)
        | inr k ↦
            let is : e.time ≡ t = omega arith in
            let all = in_slice e ∙ all_at e.time t e.to (copies y.rules.order e (all_sent y J)) is in
            let none = absent law.rules.exact e (J e.to) (λ m. let earlier = done.early e.to e m in absurd (omega arith)) in
            omega (arith, all, none)
      ]

      exact : IsExactBelow y (suc t) (λ p. J p ++ slice y (all_sent y J) t p)
      exact e l =
          let sent = same_sent y law J (λ p. slice y (all_sent y J) t p) t done.story.fit fit_slice (λ p a h. let k = (Has-slice y law (all_sent y J) t p a h).1 in omega arith) e (omega arith) in
          copies-append law.rules.exact e (J e.to) (slice y (all_sent y J) t e.to) ∙ counts e l ∙ sym sent

  pub done_below : (t : ℕ) → IsDoneBelow y t (λ q. journal_below y t q)
  unfolding journal_below
  done_below zero = done_none
  done_below (suc t) = done_next t (λ q. journal_below y t q) (done_below t)

-- The states to which journals lead

-- each process's state after its journal
abbrev pub states_by : {S B : Type 0} → System S B → (ℕ → List (Event B)) → List S
states_by y J = map_from 0 (λ q s. state_after (y.rules.step q) s (J q)) y.starts

-- what is left of a run midway
abbrev pub left : {S B : Type 0} → System S B → (ℕ → List (Event B)) → List (Event B) → System S B
left y J P = record y { starts = states_by y J; initial = P }

module _ {S B : Type 0} (y : System S B) {WellFormed : ℕ → S → Type 0} (law : IsLawful y WellFormed) where
  -- what is left of a run midway is lawful
  pub rest_lawful : (J : ℕ → List (Event B)) (P : List (Event B)) → IsMidway y J P → IsLawful (record y { starts = states_by y J; initial = P }) WellFormed
  rest_lawful J P mid = record { rules = law.rules; inside = inside; starts = starts; initial = mid.sound }
    where
      inside : (e : Event B) → y.rules.valid e ≡ true → IsInRange (length (states_by y J)) e
      inside e v = subst (λ n. IsInRange n e) (sym (length-made 0 (λ q s. state_after (y.rules.step q) s (J q)) y.starts)) (law.inside e v)

      starts : (p : ℕ) (s : S) → slice_get (states_by y J) p ≡ Some s → WellFormed p s
      starts p s h =
          let r = made_of 0 p (λ q s. state_after (y.rules.step q) s (J q)) y.starts s h in
          let is : s ≡ state_after (y.rules.step p) r.0 (J p) = subst (λ n. s ≡ state_after (y.rules.step n) r.0 (J n)) (zero-add p) r.2 in
          subst (WellFormed p) (sym is) (well_formed_after law.rules p r.0 (J p) (law.starts p r.0 r.1) (mid.story.fit p))

  module _ (J : ℕ → List (Event B)) (P : List (Event B)) (mid : IsMidway y J P) (t : ℕ) (early : (q : ℕ) (a : Event B) → Has y.rules.order (J q) a → a.time < t) where
    done : IsDoneBelow (left y J P) t (λ q. journal_below (left y J P) t q)
    done = done_below (left y J P) (rest_lawful J P mid) t

    fit : (q : ℕ) → Fits_at y.rules q (J q ++ journal_below (left y J P) t q)
    fit q a h = elim (Has-append law.rules.exact a (J q) (journal_below (left y J P) t q) h) [ inl m ↦ mid.story.fit q a m | inr m ↦ done.story.fit q a m ]

    up : (q : ℕ) → IsAscending y.rules.order (J q ++ journal_below (left y J P) t q)
    up q =
        IsAscending-append law.rules.exact (J q) (journal_below (left y J P) t q) (mid.story.up q) (done.story.up q)
        (λ a b h k. let c = done.after q b k in at_most_chain law.rules.exact a c.0 b (mid.ahead q a c.0 h c.1) c.2)

    soon : (q : ℕ) (a : Event B) → Has y.rules.order (J q ++ journal_below (left y J P) t q) a → a.time < t
    soon q a h = elim (Has-append law.rules.exact a (J q) (journal_below (left y J P) t q) h) [ inl m ↦ early q a m | inr m ↦ done.early q a m ]

    exact : IsExactBelow y t (λ q. J q ++ journal_below (left y J P) t q)
    exact e l =
        let o = law.rules.exact in
        let here : ℕ → S → List (Event B) = λ p s. sends_of (y.rules.step p) s (J p) in
        let there : ℕ → S → List (Event B) = λ p s. sends_of (y.rules.step p) (state_after (y.rules.step p) s (J p)) (journal_below (left y J P) t p) in
        let both : ℕ → S → List (Event B) = λ p s. sends_of (y.rules.step p) s (J p ++ journal_below (left y J P) t p) in
        let late : ℕ → S → List (Event B) = λ p s. sends_of (y.rules.step p) s (journal_below (left y J P) t p) in
        let parts = copies_in_parts o e 0 both here there y.starts (λ p s. outs-append (y.rules.step p) s (J p) (journal_below (left y J P) t p)) in
        let same = ap (λ l. copies y.rules.order e (flatten l)) (made_twice 0 (λ q s. state_after (y.rules.step q) s (J q)) late y.starts) in
        copies-append o e (J e.to) (journal_below (left y J P) t e.to)
        ∙ omega (
          arith,
          parts,
          same,
          mid.balance e,
          done.exact e l,
          copies-append o e y.initial (flatten (map_from 0 here y.starts)),
          copies-append o e y.initial (flatten (map_from 0 both y.starts)),
          copies-append o e P (flatten (map_from 0 late (states_by y J))),
        )

    -- the journals of a run are those midway, where all of them is before t, and then those of what is left
    pub rest_follows_at : (q : ℕ) → J q ++ journal_below (left y J P) t q ≡ journal_below y t q
    rest_follows_at q =
        sym (before_all law.rules t (J q ++ journal_below (left y J P) t q) (up q) (soon q))
        ∙ agree_below y law (λ p. J p ++ journal_below (left y J P) t p) (record { fit = fit; up = up }) t exact t (omega arith) q

    pub rest_states : map_from 0 (λ q s. state_after (y.rules.step q) s (journal_below (left y J P) t q)) (states_by y J) ≡ states_by y (λ q. journal_below y t q)
    rest_states =
        made_twice 0 (λ q s. state_after (y.rules.step q) s (J q)) (λ q s. state_after (y.rules.step q) s (journal_below (left y J P) t q)) y.starts
        ∙ made_alike 0 (λ q s. state_after (y.rules.step q) (state_after (y.rules.step q) s (J q)) (journal_below (left y J P) t q)) (λ q s. state_after (y.rules.step q) s (journal_below y t q)) y.starts
        (λ q s. sym (after-append (y.rules.step q) s (J q) (journal_below (left y J P) t q)) ∙ ap (state_after (y.rules.step q) s) (rest_follows_at q))

  -- all valid events are before t
  pub rest_follows : (J : ℕ → List (Event B)) (P : List (Event B)) → IsMidway y J P → (t : ℕ) → ((e : Event B) → y.rules.valid e ≡ true → e.time < t) → (q : ℕ) → J q ++ journal_below (left y J P) t q ≡ journal_below y t q
  rest_follows J P mid t times q = rest_follows_at J P mid t (λ q a h. times a (mid.story.fit q a h).1) q

  -- the rest of a run midway ends as the run does
  pub rest_ends : (J : ℕ → List (Event B)) (P : List (Event B)) → IsMidway y J P → EndsAs (record y { starts = states_by y J; initial = P }) y
  rest_ends J P mid last h = (
    map_from 0 (λ q _. journal_below y end_of_time q) y.starts,
    record { journals_are = refl; states_are = h.1.states_are ∙ rest_states J P mid end_of_time (λ q a h. (law.inside a (mid.story.fit q a h).1).time) },
  )

  -- valid events more from outside
  pub more_lawful : (more : List (Event B)) → All (λ e. y.rules.valid e ≡ true) more → IsLawful (record y { initial = y.initial ++ more }) WellFormed
  more_lawful more all = record { rules = law.rules; inside = law.inside; starts = law.starts; initial = initial }
    where
      initial : (e : Event B) → Has y.rules.order (y.initial ++ more) e → y.rules.valid e ≡ true
      initial e h = elim (Has-append law.rules.exact e y.initial more h) [ inl m ↦ law.initial e m | inr m ↦ each_of_all law.rules.exact (λ e. y.rules.valid e ≡ true) more all e m ]

  -- with more from outside, none of it before anything done, it is midway too
  pub midway_more : (J : ℕ → List (Event B)) (P more : List (Event B)) → IsMidway y J P → All (λ e. y.rules.valid e ≡ true) more
      → ((q : ℕ) (a b : Event B) → Has y.rules.order (J q) a → Has y.rules.order more b → AtMost y.rules.order a b)
      → IsMidway (record y { initial = y.initial ++ more }) J (P ++ more)
  midway_more J P more mid all later = record { story = mid.story; sound = sound; balance = balance; ahead = ahead }
    where
      sound : (a : Event B) → Has y.rules.order (P ++ more) a → y.rules.valid a ≡ true
      sound a h = elim (Has-append law.rules.exact a P more h) [ inl m ↦ mid.sound a m | inr m ↦ each_of_all law.rules.exact (λ e. y.rules.valid e ≡ true) more all a m ]

      ahead : (p : ℕ) (a b : Event B) → Has y.rules.order (J p) a → Has y.rules.order (P ++ more) b → AtMost y.rules.order a b
      ahead p a b h k = elim (Has-append law.rules.exact b P more k) [ inl m ↦ mid.ahead p a b h m | inr m ↦ later p a b h m ]

      balance : (e : Event B) → copies y.rules.order e (all_sent (record y { initial = y.initial ++ more }) J) ≡ copies y.rules.order e (J e.to) + copies y.rules.order e (P ++ more)
      balance e =
          let o = law.rules.exact in
          let sent = flatten (map_from 0 (λ p s. sends_of (y.rules.step p) s (J p)) y.starts) in
          copies-append o e (y.initial ++ more) sent
          ∙ omega (arith, copies-append o e y.initial more, copies-append o e y.initial sent, mid.balance e, copies-append o e P more)

module _ {S B : Type 0} (y : System S B) {WellFormed : ℕ → S → Type 0} (law : IsLawful y WellFormed) where
  -- what is left midway, where all that is done is before t, is a rest
  pub rest_of : (t : Time) (J : ℕ → List (Event B)) (P : List (Event B)) → IsMidway y J P → ((q : ℕ) (a : Event B) → Has y.rules.order (J q) a → a.time < t) → IsRestOf y t (states_by y J) P
  rest_of t J P mid early more all = rest_ends (record y { initial = y.initial ++ more }) (more_lawful y law more valid) J (P ++ more) (midway_more y law J P more mid valid later)
    where
      valid : All (λ e. y.rules.valid e ≡ true) more
      valid = All-weaker (MayCome y.rules t) (λ e. y.rules.valid e ≡ true) (λ e m. m.valid) more all

      later : (q : ℕ) (a b : Event B) → Has y.rules.order (J q) a → Has y.rules.order more b → AtMost y.rules.order a b
      later q a b h k =
          let l = early q a h in
          let m = (each_of_all law.rules.exact (MayCome y.rules t) more all b k).from in
          earlier_at_most law.rules a b (omega arith)

module _ {S B : Type 0} (y : System S B) where
  none_next : (t : ℕ) (J : ℕ → List (Event B)) → ((q : ℕ) → J q ≡ []) → (q : ℕ) → J q ++ slice (record y { initial = [] }) (all_sent (record y { initial = [] }) J) t q ≡ []
  none_next t J none q =
      let sent = none_joined 0 (λ p s. sends_of (y.rules.step p) s (J p)) y.starts (λ p s. ap (sends_of (y.rules.step p) s) (none p)) in
      ap (λ l. l ++ slice (record y { initial = [] }) (all_sent (record y { initial = [] }) J) t q) (none q)
      ∙ ap (λ l. slice (record y { initial = [] }) l t q) sent

  pub none_done : (t q : ℕ) → journal_below (record y { initial = [] }) t q ≡ []
  unfolding journal_below
  none_done zero q = refl
  none_done (suc t) q = none_next t (λ q. journal_below (record y { initial = [] }) t q) (λ q. none_done t q) q

  -- where nothing waits and nothing comes, the states are the last
  pub rest_empty : AreLastStates (record y { initial = [] }) y.starts
  rest_empty = (
    map_from 0 (λ q _. journal_below (record y { initial = [] }) end_of_time q) y.starts,
    record {
      journals_are = refl;
      states_are = made_itself 0 (λ q s. state_after (y.rules.step q) s (journal_below (record y { initial = [] }) end_of_time q)) y.starts (λ q s. ap (state_after (y.rules.step q) s) (none_done end_of_time q));
    },
  )

-- Ends

pub ends_itself : {S B : Type 0} (y : System S B) → EndsAs y y
ends_itself y last h = h

pub ends_chain : {S B : Type 0} (x y z : System S B) → EndsAs x y → EndsAs y z → EndsAs x z
ends_chain x y z f g last h = g last (f last h)

-- What a worker's processes keep, deed by deed.
use Rattle.std.proofs.Common.{◌≡◌, ℕ, ◌+◌, List, [], ◌∷◌, ◌++◌, refl, sym, ap, ◌∙◌, subst, arith, ⊎_elim, Option, Some, None}
use Rattle.std.proofs.lemmas.Bool.{cases_eq}
use Rattle.rw_vt.specs.declared.event.Letter.{Letter}
use Rattle.rw_vt.specs.System.{Rules}
use Rattle.rw_vt.proofs.Letters.{count-letter}
use Rattle.rw_vt.proofs.Bags.{one_if-itself}
use Rattle.rw_lp.specs.Process.{ProcessState, execute_next}
use Rattle.rw_lp.specs.declared.way.Way.{Way}
use Rattle.rw_lp.specs.Arrival.{undo_by}
use Rattle.rw_lp.specs.Sound.{SoundAt, SoundLetters, Kept, KeptAt}
use Rattle.rw_lp.proofs.Cited.{kept_more}
use Rattle.rw_pool.specs.Sums.{sum_below}
use Rattle.rw_pool.proofs.Sums.{total_same, total_add, total_zero}
use Rattle.rw_rounds.specs.Bags.{weigh, Every}
use Rattle.rw_rounds.specs.Deeds.{Deed, Arrival, Undoing, Execution, Stepped, IsFair, Did, Goes, arrivals}
use Rattle.rw_rounds.proofs.Governing.{Governs}
use Rattle.rw_rounds.proofs.Keeping.{kept_none, kept_of, arrival_keeps}
use Rattle.rw_rounds.proofs.Sums.{weigh-append, every_append, at_only, at_here, at_other, weigh_at}

-- each process that is there is sound, and started so
pub record Well {S B : Type 0} (y : Rules S B) (Started : ℕ → S → Type 0) (g : ℕ) (a : ℕ → Option (ProcessState S B)) : Type 0 where
  pub sound : (q : ℕ) (x : ProcessState S B) → a q ≡ Some x → SoundAt y g q x
  pub started : (q : ℕ) (x : ProcessState S B) → a q ≡ Some x → Started q x.start

-- from a to b these letters arrived and those were given out, each at its process
pub record Gone {S B : Type 0} (y : Rules S B) (g n : ℕ) (a b : ℕ → Option (ProcessState S B)) (arrived given : List (Letter B)) : Type 0 where
  pub came : ℕ → List (Letter B)
  pub out : ℕ → List (Letter B)
  pub kept : (q : ℕ) → KeptAt y g q (a q) (b q) (came q) (out q)
  pub idle : (q : ℕ) → a q ≡ None → (came q ≡ []) × (out q ≡ [])
  pub arrived_are : (h : Letter B → ℕ) → sum_below n (λ q. weigh h (came q)) ≡ weigh h arrived
  pub given_are : (h : Letter B → ℕ) → sum_below n (λ q. weigh h (out q)) ≡ weigh h given
  pub come_here : (q : ℕ) → Every (λ l. l.event.to ≡ q) (came q)
  pub fair : Every (IsFair y g) given

module _ {S B : Type 0} (y : Rules S B) {Started : ℕ → S → Type 0} (g n : ℕ) (rule : Governs y Started g n) where
  -- letters that are sound are fair, one by one
  pub fair_letters : (ls : List (Letter B)) → SoundLetters y g ls → Every (IsFair y g) ls
  fair_letters [] s = tt
  fair_letters (l ∷ ls) s =
      let first = count-letter y.order l.event l ls in
      let one = one_if-itself rule.exact l.event in (
        record { valid = s.valid l.event (omega arith); from = s.from l.event (omega arith) },
        fair_letters ls (record { valid = λ e k. s.valid e (let c = count-letter y.order e l ls in omega arith); from = λ e k. s.from e (let c = count-letter y.order e l ls in omega arith) }),
      )

  pub gone_none : (a : ℕ → Option (ProcessState S B)) → Well y Started g a → Gone y g n a a [] []
  gone_none a well = record {
    came = λ q. [];
    out = λ q. [];
    kept = λ q. go q (a q) refl;
    idle = λ q h. (refl, refl);
    arrived_are = λ h. total_zero n (λ _. 0) (λ i l. refl);
    given_are = λ h. total_zero n (λ _. 0) (λ i l. refl);
    come_here = λ q. tt;
    fair = tt;
  }
    where
      go : (q : ℕ) (o : Option (ProcessState S B)) → a q ≡ o → KeptAt y g q o o [] []
      go q None h = tt
      go q (Some x) h = kept_none y g q x (well.sound q x h)

  -- one process steps
  gone_one : (a b : ℕ → Option (ProcessState S B)) (p : ℕ) (By : ProcessState S B → ProcessState S B → List (Letter B) → Type 0) (x z : ProcessState S B) (came out : List (Letter B)) → Well y Started g a → Stepped p By a b x z out → Kept y g p x z came out → Every (λ l. l.event.to ≡ p) came → Gone y g n a b came out
  gone_one a b p By x z came out well s kept here = record {
    came = at_only p came;
    out = at_only p out;
    kept = λ q. ⊎_elim (kept_here q) (kept_other q) (cases_eq q p);
    idle = λ q h. (let other : q ≡ p → ⊥ = λ k. never q h k in (at_other p q came other, at_other p q out other));
    arrived_are = λ h. weigh_at n p h came (rule.in_range p x.start (well.started p x s.was));
    given_are = λ h. weigh_at n p h out (rule.in_range p x.start (well.started p x s.was));
    come_here = λ q. ⊎_elim (all_here q) (none_here q) (cases_eq q p);
    fair = fair_letters out kept.letters;
  }
    where
      never : (q : ℕ) → a q ≡ None → q ≡ p → ⊥
      never q h k = let e : None ≡ Some x = sym h ∙ ap a k ∙ s.was in cc

      at_p : KeptAt y g p (a p) (b p) (at_only p came p) (at_only p out p)
      at_p = subst (λ o. KeptAt y g p o (b p) (at_only p came p) (at_only p out p)) (sym s.was)
          (subst (λ o. KeptAt y g p (Some x) o (at_only p came p) (at_only p out p)) (sym s.is)
          (subst (λ ls. KeptAt y g p (Some x) (Some z) ls (at_only p out p)) (sym (at_here p came))
          (subst (λ ls. KeptAt y g p (Some x) (Some z) came ls) (sym (at_here p out)) kept)))

      kept_here : (q : ℕ) → q ≡ p → KeptAt y g q (a q) (b q) (at_only p came q) (at_only p out q)
      kept_here q k = subst (λ r. KeptAt y g r (a r) (b r) (at_only p came r) (at_only p out r)) (sym k) at_p

      stays : (q : ℕ) (o : Option (ProcessState S B)) → a q ≡ o → KeptAt y g q o o [] []
      stays q None h = tt
      stays q (Some u) h = kept_none y g q u (well.sound q u h)

      kept_other : (q : ℕ) → (q ≡ p → ⊥) → KeptAt y g q (a q) (b q) (at_only p came q) (at_only p out q)
      kept_other q k =
          subst (λ o. KeptAt y g q (a q) o (at_only p came q) (at_only p out q)) (sym (s.others q k))
          (subst (λ ls. KeptAt y g q (a q) (a q) ls (at_only p out q)) (sym (at_other p q came k))
          (subst (λ ls. KeptAt y g q (a q) (a q) [] ls) (sym (at_other p q out k)) (stays q (a q) refl)))

      all_here : (q : ℕ) → q ≡ p → Every (λ l. l.event.to ≡ q) (at_only p came q)
      all_here q k = subst (λ r. Every (λ l. l.event.to ≡ r) (at_only p came r)) (sym k) (subst (λ ls. Every (λ l. l.event.to ≡ p) ls) (sym (at_here p came)) here)

      none_here : (q : ℕ) → (q ≡ p → ⊥) → Every (λ l. l.event.to ≡ q) (at_only p came q)
      none_here q k = subst (λ ls. Every (λ l. l.event.to ≡ q) ls) (sym (at_other p q came k)) tt

  kept_both : (q : ℕ) (o u v : Option (ProcessState S B)) (came out came' out' : List (Letter B)) → KeptAt y g q o u came out → KeptAt y g q u v came' out' → KeptAt y g q o v (came ++ came') (out ++ out')
  kept_both q (Some x) (Some z) (Some w) came out came' out' a b = kept_more y g q x z w came out came' out' a b
  kept_both q None None None came out came' out' a b = tt
  kept_both q None (Some z) v came out came' out' a b = absurd a
  kept_both q (Some x) None v came out came' out' a b = absurd a
  kept_both q (Some x) (Some z) None came out came' out' a b = absurd b
  kept_both q None None (Some w) came out came' out' a b = absurd b

  none_after : (q : ℕ) (o u : Option (ProcessState S B)) (came out : List (Letter B)) → KeptAt y g q o u came out → o ≡ None → u ≡ None
  none_after q None None came out k h = refl
  none_after q None (Some z) came out k h = absurd k
  none_after q (Some x) u came out k h = cc

  pub gone_more : (a b c : ℕ → Option (ProcessState S B)) (arrived given arrived' given' : List (Letter B)) → Gone y g n a b arrived given → Gone y g n b c arrived' given' → Gone y g n a c (arrived ++ arrived') (given ++ given')
  gone_more a b c arrived given arrived' given' x z = record {
    came = λ q. x.came q ++ z.came q;
    out = λ q. x.out q ++ z.out q;
    kept = λ q. kept_both q (a q) (b q) (c q) (x.came q) (x.out q) (z.came q) (z.out q) (x.kept q) (z.kept q);
    idle = λ q h.
        let u = x.idle q h in
        let v = z.idle q (none_after q (a q) (b q) (x.came q) (x.out q) (x.kept q) h) in
        (ap (λ ls. ls ++ z.came q) u.0 ∙ v.0, ap (λ ls. ls ++ z.out q) u.1 ∙ v.1);
    arrived_are = λ h.
        total_same n (λ q. weigh h (x.came q ++ z.came q)) (λ q. weigh h (x.came q) + weigh h (z.came q)) (λ q l. weigh-append h (x.came q) (z.came q))
        ∙ total_add n (λ q. weigh h (x.came q)) (λ q. weigh h (z.came q))
        ∙ (let u = x.arrived_are h in let v = z.arrived_are h in let w = weigh-append h arrived arrived' in omega arith);
    given_are = λ h.
        total_same n (λ q. weigh h (x.out q ++ z.out q)) (λ q. weigh h (x.out q) + weigh h (z.out q)) (λ q l. weigh-append h (x.out q) (z.out q))
        ∙ total_add n (λ q. weigh h (x.out q)) (λ q. weigh h (z.out q))
        ∙ (let u = x.given_are h in let v = z.given_are h in let w = weigh-append h given given' in omega arith);
    come_here = λ q. every_append (λ l. l.event.to ≡ q) (x.came q) (z.came q) (x.come_here q) (z.come_here q);
    fair = every_append (IsFair y g) given given' x.fair z.fair;
  }

  pub well_after : (a b : ℕ → Option (ProcessState S B)) (arrived given : List (Letter B)) → Well y Started g a → Gone y g n a b arrived given → Well y Started g b
  well_after a b arrived given well x = record {
    sound = λ q z h. (go q z (a q) (b q) refl h (x.kept q)).0;
    started = λ q z h. (go q z (a q) (b q) refl h (x.kept q)).1;
  }
    where
      go : (q : ℕ) (z : ProcessState S B) (o u : Option (ProcessState S B)) → a q ≡ o → u ≡ Some z → KeptAt y g q o u (x.came q) (x.out q) → SoundAt y g q z × Started q z.start
      go q z (Some w) (Some v) h k t =
          let is : v ≡ z = cc in
          (subst (SoundAt y g q) is t.sound, subst (Started q) (sym t.change.start ∙ ap (λ r. r.start) is) (well.started q w h))
      go q z None None h k t = cc
      go q z (Some w) None h k t = absurd t
      go q z None (Some v) h k t = absurd t

  pub did_gone : (way : Way) (d : Deed B) (a b : ℕ → Option (ProcessState S B)) (out : List (Letter B)) → Well y Started g a → Did y g way d a b out → Gone y g n a b (arrivals (d ∷ [])) out
  did_gone way (Arrival l) a b out well d =
      let p : ℕ = l.event.to in
      let x = d.0 in let z = d.1 in let s = d.2 in
      gone_one a b p _ x z (l ∷ []) out well s
      (arrival_keeps y g p rule way x z l out (well.started p x s.was) (well.sound p x s.was) (record { valid = d.3.valid; here = refl }) d.3.from s.by)
      (refl, tt)
  did_gone way (Undoing p) a b out well d =
      let x = d.0 in let z = d.1 in let s = d.2 in
      gone_one a b p _ x z [] out well s (kept_of y g p x z [] out (undo_by way y p x) s.by (rule.undoes way p x (well.started p x s.was) (well.sound p x s.was))) tt
  did_gone way (Execution p) a b out well d =
      let x = d.0 in let z = d.1 in let s = d.2 in
      gone_one a b p _ x z [] out well s (kept_of y g p x z [] out (execute_next y p x) s.by (rule.executes p x (well.started p x s.was) (well.sound p x s.was))) tt

  pub arrivals_more : (d : Deed B) (ds : List (Deed B)) → arrivals (d ∷ []) ++ arrivals ds ≡ arrivals (d ∷ ds)
  arrivals_more (Arrival l) ds = refl
  arrivals_more (Undoing p) ds = refl
  arrivals_more (Execution p) ds = refl

  pub goes_gone : (way : Way) (ds : List (Deed B)) (a b : ℕ → Option (ProcessState S B)) (given : List (Letter B)) → Well y Started g a → Goes y g way ds a b given → Gone y g n a b (arrivals ds) given
  goes_gone way [] a b given well go = subst (λ c. Gone y g n a c [] given) (sym go.0) (subst (λ ls. Gone y g n a a [] ls) (sym go.1) (gone_none a well))
  goes_gone way (d ∷ ds) a b given well go =
      let c = go.0 in
      let one = did_gone way d a c go.1 well go.3 in
      let rest = goes_gone way ds c b go.2 (well_after a c (arrivals (d ∷ [])) go.1 well one) go.4 in
      subst (λ ls. Gone y g n a b ls given) (arrivals_more d ds) (subst (λ ls. Gone y g n a b (arrivals (d ∷ []) ++ arrivals ds) ls) (sym go.5) (gone_more a c b (arrivals (d ∷ [])) go.1 (arrivals ds) go.2 one rest))

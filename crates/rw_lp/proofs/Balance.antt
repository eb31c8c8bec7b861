-- The balance of letters: each call changes what is done and pending, less what is owed, by what came, and what was sent by what it gave out.
use Rattle.std.proofs.Common.{◌≡◌, ℕ, ◌+◌, Bool, true, false, cond, List, [], ◌∷◌, ◌++◌, refl, sym, ap, ◌∙◌, subst, arith, append_assoc, append-nil, zero, suc, Option, Some, None}
use Rattle.rw_vt.specs.declared.event.Event.{Event}
use Rattle.rw_vt.specs.declared.event.Letter.{Letter}
use Rattle.rw_vt.specs.Order.{one_if_same, copies, insert_in_order, has, without}
use Rattle.rw_vt.specs.Letters.{letters_of, messages, antis}
use Rattle.rw_vt.specs.System.{Rules, state_after, sends_of}
use Rattle.rw_vt.proofs.Sorting.{IsExactOrder, copies-append, copies-insert}
use Rattle.rw_vt.proofs.Bags.{copies-without}
use Rattle.rw_vt.proofs.Letters.{messages-append, antis-append, messages_sent, antis_sent, messages_unsent, antis_unsent}
use Rattle.rw_vt.proofs.Runs.{outs-append}
use Rattle.rw_lp.specs.declared.answer.Answer.{Answer}
use Rattle.rw_lp.specs.declared.answer.Answer.TheVariants.{Done}
use Rattle.rw_lp.specs.declared.answer.StepFault.{StepFault}
use Rattle.rw_lp.specs.declared.answer.StepFault.TheVariants.{NothingToUndo}
use Rattle.rw_lp.specs.declared.held.Held.{Held}
use Rattle.rw_lp.specs.HeldBack.{letters_given, antis_unless, held_unless}
use Rattle.rw_lp.specs.HeldMessages.{held_messages, held_of, held_with, held_without, unheld_sends}
use Rattle.rw_lp.proofs.Holding.{count-held_append, count-held_of, count-held_parts, count-unheld}
use Rattle.rw_lp.specs.Process.{ProcessState, done, Turn, Turned, Stays, split_last, after_execution, after_undoing, undo_last, undo_one, undo_last_lazily, undo_lazily, sends_of_last, deliver}
use Rattle.rw_lp.proofs.WithBags.{with_bags}
use Rattle.rw_lp.specs.Calls.{Took, IsTaken, letters_taken}
use Rattle.rw_lp.specs.declared.way.Way.{Way}
use Rattle.rw_lp.specs.declared.way.Way.TheVariants.{Aggressive, Lazy}
use Rattle.rw_lp.specs.Arrival.{undo_by, undo_times, and_undo, with_out}
use Rattle.rw_lp.specs.Sound.{Balance}
use Rattle.rw_lp.proofs.Splits.{IsSplit, split_is}

module _ {S B : Type 0} (y : Rules S B) (o : IsExactOrder y.order) (p : ℕ) where
  count_last : (a e : Event B) (xs : List (Event B)) → copies y.order a (xs ++ e ∷ []) ≡ copies y.order a xs + one_if_same y.order a e
  count_last a e xs = omega (arith, copies-append o a xs (e ∷ []))

  sent_last : (s : S) (xs : List (Event B)) (e a : Event B) → copies y.order a (sends_of (y.step p) s (xs ++ e ∷ [])) ≡ copies y.order a (sends_of (y.step p) s xs) + copies y.order a (y.step p (state_after (y.step p) s xs) e).1
  sent_last s xs e a =
      let sends : List (Event B) = (y.step p (state_after (y.step p) s xs) e).1 in
      ap (copies y.order a) (outs-append (y.step p) s xs (e ∷ []) ∙ ap (λ l. sends_of (y.step p) s xs ++ l) (append-nil sends))
      ∙ copies-append o a (sends_of (y.step p) s xs) sends

  pub unchanged : (x z : ProcessState S B) → z ≡ x → Balance y p x z [] []
  unchanged x z is = subst (λ w. Balance y p x w [] []) (sym is) (record { start = refl; kept = λ e. refl; sent = λ e. refl })

  pub execution_balanced : (x z : ProcessState S B) (e : Event B) (rest : List (Event B)) (given : List (Letter B)) → x.state ≡ state_after (y.step p) x.start (done x) → x.pending ≡ e ∷ rest
      → z ≡ after_execution y p x e rest (unheld_sends y.order (y.step p x.state e).1 x.held).1 → given ≡ letters_given y.order e (y.step p x.state e).1 x.held → Balance y p x z [] given
  execution_balanced x z e rest given fold q is sent =
      subst (λ w. Balance y p x w [] given) (sym is) (subst (λ l. Balance y p x (after_execution y p x e rest left) [] l) (sym sent) change)
    where
      sends : List (Event B)
      sends = (y.step p x.state e).1

      fresh : List (Event B)
      fresh = (unheld_sends y.order sends x.held).0

      left : List (Held B)
      left = (unheld_sends y.order sends x.held).1

      cancelled : List (Event B)
      cancelled = held_with y.order e left

      more : x.committed ++ (x.processed ++ e ∷ []) ≡ done x ++ e ∷ []
      more = sym (append_assoc x.committed x.processed (e ∷ []))

      change : Balance y p x (after_execution y p x e rest left) [] (letters_of false fresh ++ letters_of true cancelled)
      change = record {
        start = refl;
        kept = λ a.
            let d1 : copies y.order a (x.committed ++ (x.processed ++ e ∷ [])) ≡ copies y.order a (done x) + one_if_same y.order a e = ap (copies y.order a) more ∙ count_last a e (done x) in
            let p1 : copies y.order a x.pending ≡ one_if_same y.order a e + copies y.order a rest = ap (copies y.order a) q in
            omega arith;
        sent = λ a.
            let s1 : copies y.order a (sends_of (y.step p) x.start (x.committed ++ (x.processed ++ e ∷ []))) ≡ copies y.order a (sends_of (y.step p) x.start (done x)) + copies y.order a sends =
            ap (λ l. copies y.order a (sends_of (y.step p) x.start l)) more ∙ sent_last x.start (done x) e a ∙ ap (λ s. copies y.order a (sends_of (y.step p) x.start (done x)) + copies y.order a (y.step p s e).1) (sym fold) in
            omega (arith, s1, messages-append y.order a (letters_of false fresh) (letters_of true cancelled), antis-append y.order a (letters_of false fresh) (letters_of true cancelled), messages_sent y.order a fresh, antis_sent y.order a fresh, messages_unsent y.order a cancelled, antis_unsent y.order a cancelled, count-unheld y o a sends x.held, count-held_parts y a e left);
      }

  module _ (x : ProcessState S B) (front : List (Event B)) (e : Event B) (q : x.processed ≡ front ++ e ∷ []) where
    more_done : done x ≡ (x.committed ++ front) ++ e ∷ []
    more_done = ap (λ l. x.committed ++ l) q ∙ sym (append_assoc x.committed front (e ∷ []))

    kept_undone : (a : Event B) → copies y.order a (x.committed ++ front) + copies y.order a (insert_in_order y.order e x.pending) + copies y.order a x.debts + 0 ≡ copies y.order a (done x) + copies y.order a x.pending + copies y.order a x.debts + 0
    kept_undone a =
        let d1 : copies y.order a (done x) ≡ copies y.order a (x.committed ++ front) + one_if_same y.order a e = ap (copies y.order a) more_done ∙ count_last a e (x.committed ++ front) in
        omega (arith, d1, copies-insert o a e x.pending)

    sent_undone : (a : Event B) → copies y.order a (sends_of (y.step p) x.start (done x)) ≡ copies y.order a (sends_of (y.step p) x.start (x.committed ++ front)) + copies y.order a (sends_of_last y p x front e)
    sent_undone a = ap (λ l. copies y.order a (sends_of (y.step p) x.start l)) more_done ∙ sent_last x.start (x.committed ++ front) e a

  pub undoing_balanced : (x z : ProcessState S B) (front : List (Event B)) (e : Event B) (given : List (Letter B)) → x.processed ≡ front ++ e ∷ [] → z ≡ after_undoing y p x front e x.held → given ≡ letters_of true (sends_of_last y p x front e) → Balance y p x z [] given
  undoing_balanced x z front e given q is sent =
      subst (λ w. Balance y p x w [] given) (sym is) (subst (λ l. Balance y p x (after_undoing y p x front e x.held) [] l) (sym sent) change)
    where
      sends : List (Event B)
      sends = sends_of_last y p x front e

      change : Balance y p x (after_undoing y p x front e x.held) [] (letters_of true sends)
      change = record {
        start = refl;
        kept = kept_undone x front e q;
        sent = λ a. omega (arith, sent_undone x front e q a, messages_unsent y.order a sends, antis_unsent y.order a sends);
      }

  pub lazy_undoing_balanced : (x z : ProcessState S B) (front : List (Event B)) (e : Event B) → x.processed ≡ front ++ e ∷ [] → z ≡ after_undoing y p x front e (x.held ++ held_of e (sends_of_last y p x front e)) → Balance y p x z [] []
  lazy_undoing_balanced x z front e q is = subst (λ w. Balance y p x w [] []) (sym is) change
    where
      sends : List (Event B)
      sends = sends_of_last y p x front e

      change : Balance y p x (after_undoing y p x front e (x.held ++ held_of e sends)) [] []
      change = record {
        start = refl;
        kept = kept_undone x front e q;
        sent = λ a. omega (arith, sent_undone x front e q a, count-held_append y a x.held (held_of e sends), count-held_of y a e sends);
      }

  bags_balanced : (x : ProcessState S B) (l : Letter B) (pending debts : List (Event B)) → ((a : Event B) → copies y.order a pending + copies y.order a x.debts + antis y.order a (l ∷ []) ≡ copies y.order a x.pending + copies y.order a debts + messages y.order a (l ∷ []))
      → Balance y p x (with_bags x pending debts x.held) (l ∷ []) []
  bags_balanced x l pending debts counts = record { start = refl; kept = λ a. omega (arith, counts a); sent = λ a. refl }

  -- a delivery, by what it found
  pub anti_meets : (x : ProcessState S B) (l : Letter B) (pending : List (Event B)) (held : List (Held B)) (out : List (Letter B)) → l.anti ≡ true → has y.order l.event x.pending ≡ true → pending ≡ without y.order l.event x.pending
      → held ≡ held_unless (has y.order l.event pending) y.order l.event x.held → out ≡ antis_unless (has y.order l.event pending) y.order l.event x.held → Balance y p x (with_bags x pending x.debts held) (l ∷ []) out
  anti_meets x l pending held out q h is left given = record { start = refl; kept = kept; sent = λ c. sent c (has y.order l.event pending) left given }
    where
      kept : (c : Event B) → copies y.order c (done x) + copies y.order c pending + copies y.order c x.debts + antis y.order c (l ∷ []) ≡ copies y.order c (done x) + copies y.order c x.pending + copies y.order c x.debts + messages y.order c (l ∷ [])
      kept c =
          let m1 : messages y.order c (l ∷ []) ≡ 0 = ap (λ b. cond b 0 (one_if_same y.order c l.event) + 0) q in
          let a1 : antis y.order c (l ∷ []) ≡ one_if_same y.order c l.event + 0 = ap (λ b. cond b (one_if_same y.order c l.event) 0 + 0) q in
          let p1 : copies y.order c pending ≡ copies y.order c (without y.order l.event x.pending) = ap (copies y.order c) is in
          omega (arith, m1, a1, p1, copies-without o c l.event x.pending h)

      sent : (c : Event B) (b : Bool) → held ≡ held_unless b y.order l.event x.held → out ≡ antis_unless b y.order l.event x.held →
          copies y.order c (sends_of (y.step p) x.start (done x)) + copies y.order c (held_messages held) + antis y.order c out ≡ copies y.order c (sends_of (y.step p) x.start (done x)) + copies y.order c (held_messages x.held) + messages y.order c out
      sent c true hs ls = rw (hs, ls) refl
      sent c false hs ls =
          let cancelled : List (Event B) = held_with y.order l.event x.held in
          let h1 : copies y.order c (held_messages held) ≡ copies y.order c (held_messages (held_without y.order l.event x.held)) = ap (λ k. copies y.order c (held_messages k)) hs in
          let m1 : messages y.order c out ≡ messages y.order c (letters_of true cancelled) = ap (messages y.order c) ls in
          let a1 : antis y.order c out ≡ antis y.order c (letters_of true cancelled) = ap (antis y.order c) ls in
          omega (arith, h1, m1, a1, count-held_parts y c l.event x.held, messages_unsent y.order c cancelled, antis_unsent y.order c cancelled)

  pub anti_owed : (x : ProcessState S B) (l : Letter B) (pending debts : List (Event B)) → l.anti ≡ true → pending ≡ x.pending → debts ≡ insert_in_order y.order l.event x.debts → Balance y p x (with_bags x pending debts x.held) (l ∷ []) []
  anti_owed x l pending debts q same is = bags_balanced x l pending debts (λ c.
      let m1 : messages y.order c (l ∷ []) ≡ 0 = ap (λ b. cond b 0 (one_if_same y.order c l.event) + 0) q in
      let a1 : antis y.order c (l ∷ []) ≡ one_if_same y.order c l.event + 0 = ap (λ b. cond b (one_if_same y.order c l.event) 0 + 0) q in
      let p1 : copies y.order c pending ≡ copies y.order c x.pending = ap (copies y.order c) same in
      let d1 : copies y.order c debts ≡ copies y.order c (insert_in_order y.order l.event x.debts) = ap (copies y.order c) is in
      omega (arith, m1, a1, p1, d1, copies-insert o c l.event x.debts))

  pub anti_refused : (x : ProcessState S B) (pending : List (Event B)) → pending ≡ x.pending → Balance y p x (with_bags x pending x.debts x.held) [] []
  anti_refused x pending same = record { start = refl; kept = λ c. let p1 : copies y.order c pending ≡ copies y.order c x.pending = ap (copies y.order c) same in omega (arith, p1); sent = λ c. refl }

  pub message_meets : (x : ProcessState S B) (l : Letter B) (debts : List (Event B)) → l.anti ≡ false → has y.order l.event x.debts ≡ true → debts ≡ without y.order l.event x.debts → Balance y p x (with_bags x x.pending debts x.held) (l ∷ []) []
  message_meets x l debts q h is = bags_balanced x l x.pending debts (λ c.
      let m1 : messages y.order c (l ∷ []) ≡ one_if_same y.order c l.event + 0 = ap (λ b. cond b 0 (one_if_same y.order c l.event) + 0) q in
      let a1 : antis y.order c (l ∷ []) ≡ 0 = ap (λ b. cond b (one_if_same y.order c l.event) 0 + 0) q in
      let d1 : copies y.order c debts ≡ copies y.order c (without y.order l.event x.debts) = ap (copies y.order c) is in
      omega (arith, m1, a1, d1, copies-without o c l.event x.debts h))

  pub message_put : (x : ProcessState S B) (l : Letter B) (pending debts : List (Event B)) → l.anti ≡ false → debts ≡ x.debts → pending ≡ insert_in_order y.order l.event x.pending → Balance y p x (with_bags x pending debts x.held) (l ∷ []) []
  message_put x l pending debts q same is = bags_balanced x l pending debts (λ c.
      let m1 : messages y.order c (l ∷ []) ≡ one_if_same y.order c l.event + 0 = ap (λ b. cond b 0 (one_if_same y.order c l.event) + 0) q in
      let a1 : antis y.order c (l ∷ []) ≡ 0 = ap (λ b. cond b (one_if_same y.order c l.event) 0 + 0) q in
      let d1 : copies y.order c debts ≡ copies y.order c x.debts = ap (copies y.order c) same in
      let p1 : copies y.order c pending ≡ copies y.order c (insert_in_order y.order l.event x.pending) = ap (copies y.order c) is in
      omega (arith, m1, a1, d1, p1, copies-insert o c l.event x.pending))

  -- one change and then another
  pub change_then : (x w z : ProcessState S B) (came₁ came₂ out₁ out₂ : List (Letter B)) → Balance y p x w came₁ out₁ → Balance y p w z came₂ out₂ → Balance y p x z (came₁ ++ came₂) (out₁ ++ out₂)
  change_then x w z c d g h a b = record {
    start = b.start ∙ a.start;
    kept = λ e. omega (arith, a.kept e, b.kept e, messages-append y.order e c d, antis-append y.order e c d);
    sent = λ e. omega (arith, a.sent e, b.sent e, messages-append y.order e g h, antis-append y.order e g h);
  }

  undo_balanced : (x z : ProcessState S B) (out : List (Letter B)) → undo_one y p x ≡ Turned z out → Balance y p x z [] out
  undo_balanced x z out is = go (split_last x.processed) (split_is x.processed) is
    where
      go : (r : Option (List (Event B) × Event B)) → IsSplit x.processed r → undo_last y p x r ≡ Turned z out → Balance y p x z [] out
      go None q t = absurd (stays_not NothingToUndo z out t)
        where
          stays_not : (fault : StepFault) (z : ProcessState S B) (out : List (Letter B)) → (let t : Turn S B = Stays fault in t) ≡ Turned z out → ⊥
          stays_not fault z out e = cc
      go (Some r) q t =
          let same : after_undoing y p x r.0 r.1 x.held ≡ z = cc in
          let sent : letters_of true (sends_of_last y p x r.0 r.1) ≡ out = cc in
          undoing_balanced x z r.0 r.1 out q (sym same) (sym sent)

  lazy_undo_balanced : (x z : ProcessState S B) (out : List (Letter B)) → undo_lazily y p x ≡ Turned z out → Balance y p x z [] out
  lazy_undo_balanced x z out is = go (split_last x.processed) (split_is x.processed) is
    where
      go : (r : Option (List (Event B) × Event B)) → IsSplit x.processed r → undo_last_lazily y p x r ≡ Turned z out → Balance y p x z [] out
      go None q t = absurd (stays_not NothingToUndo z out t)
        where
          stays_not : (fault : StepFault) (z : ProcessState S B) (out : List (Letter B)) → (let t : Turn S B = Stays fault in t) ≡ Turned z out → ⊥
          stays_not fault z out e = cc
      go (Some r) q t =
          let same : after_undoing y p x r.0 r.1 (x.held ++ held_of r.1 (sends_of_last y p x r.0 r.1)) ≡ z = cc in
          let sent : [] ≡ out = cc in
          subst (λ l. Balance y p x z [] l) sent (lazy_undoing_balanced x z r.0 r.1 q (sym same))

  -- each way of undoing keeps the balance
  pub way_balanced : (way : Way) (x z : ProcessState S B) (out : List (Letter B)) → undo_by way y p x ≡ Turned z out → Balance y p x z [] out
  way_balanced Aggressive x z out is = undo_balanced x z out is
  way_balanced Lazy x z out is = lazy_undo_balanced x z out is

  stays_not : (fault : StepFault) (given : List (Letter B)) (z : ProcessState S B) (out : List (Letter B)) → with_out given (let t : Turn S B = Stays fault in t) ≡ Turned z out → ⊥
  stays_not fault given z out e = let k : (let t : Turn S B = Stays fault in t) ≡ Turned z out = e in cc

  module _ (way : Way) where
    one_more_balanced : (x w z : ProcessState S B) (given out : List (Letter B)) → Balance y p x w [] given → (t : Turn S B) → undo_by way y p w ≡ t → with_out given t ≡ Turned z out → Balance y p x z [] out
    one_more_balanced x w z given out a (Stays fault) r m = absurd (stays_not fault given z out m)
    one_more_balanced x w z given out a (Turned v more) r m =
        let k : (let t : Turn S B = Turned v (given ++ more) in t) ≡ Turned z out = m in
        let same : v ≡ z = cc in
        let all : given ++ more ≡ out = cc in
        subst (λ u. Balance y p x u [] out) same (subst (λ l. Balance y p x v [] l) all (change_then x w v [] [] given more a (way_balanced way w v more r)))

    more_balanced : (x z : ProcessState S B) (out : List (Letter B)) (t : Turn S B) → ((w : ProcessState S B) (given : List (Letter B)) → t ≡ Turned w given → Balance y p x w [] given) → and_undo (undo_by way y p) t ≡ Turned z out → Balance y p x z [] out
    more_balanced x z out (Stays fault) a k = absurd (stays_not fault [] z out k)
    more_balanced x z out (Turned w given) a k = one_more_balanced x w z given out (a w given refl) (undo_by way y p w) refl k

    pub undoings_balanced : (n : ℕ) (x z : ProcessState S B) (out : List (Letter B)) → undo_times (undo_by way y p) n x ≡ Turned z out → Balance y p x z [] out
    undoings_balanced zero x z out is =
        let k : (let t : Turn S B = Turned x [] in t) ≡ Turned z out = is in
        let same : x ≡ z = cc in
        let none : [] ≡ out = cc in
        subst (λ l. Balance y p x z [] l) none (unchanged x z (sym same))
    undoings_balanced (suc n) x z out is = more_balanced x z out (undo_times (undo_by way y p) n x) (λ w given u. undoings_balanced n x w given u) is

    pub arrival_balanced : (x w z : ProcessState S B) (a : Answer) (l : Letter B) (given rest : List (Letter B)) (n : ℕ) → undo_times (undo_by way y p) n x ≡ Turned w given → IsTaken (deliver y.order l w) → Took w z a rest (deliver y.order l w) → Balance y p w z (letters_taken a l) rest → Balance y p x z (l ∷ []) (given ++ rest)
    arrival_balanced x w z a l given rest n after_undoing taken took change =
        change_then x w z [] (l ∷ []) given rest (undoings_balanced n x w given after_undoing) (subst (λ b. Balance y p w z (letters_taken b l) rest) (answer (deliver y.order l w) taken took) change)
      where
        answer : (t : Turn S B) → IsTaken t → Took w z a rest t → a ≡ Done
        answer (Stays fault) k q = absurd k
        answer (Turned v out) k q = q.1

-- Each step of a process keeps it sound, and changes it by what came and what it gave out.
use Rattle.std.proofs.Common.{◌≡◌, ℕ, ◌+◌, ◌<◌, ◌≤◌, Bool, true, false, cond, List, [], ◌∷◌, ◌++◌, refl, sym, ap, ◌∙◌, subst, arith, append_assoc, append-nil, ⊎_elim, Option, Some, None}
use Rattle.std.proofs.lemmas.Bool.{cases_Bool}
use Rattle.std.specs.Ordering.{is_eq}
use Rattle.rw_vt.specs.declared.event.Event.{Event}
use Rattle.rw_vt.specs.declared.event.Letter.{Letter}
use Rattle.rw_vt.specs.Order.{AtMost, one_if_same, copies, Each, IsAscending, insert_in_order, has, without}
use Rattle.rw_vt.specs.Letters.{letters_of, messages, antis}
use Rattle.rw_vt.specs.System.{Rules, state_after, sends_of}
use Rattle.rw_vt.proofs.Sorting.{tied, copies-append, copies-insert, Has-head, IsAscending-insert}
use Rattle.rw_vt.proofs.Bags.{one_if-itself, one_if-other, Each-nil, Each-cons, Each-tail, Each-append, Each-front, Each-insert, Each-without, IsAscending-front, IsAscending-push, IsAscending-without, copies-without, Has-test}
use Rattle.rw_vt.proofs.Letters.{messages-append, antis-append, messages_sent, antis_sent, messages_unsent, antis_unsent}
use Rattle.rw_vt.proofs.Runs.{AreLawful, after-append, outs-append, well_formed_after, each_sent}
use Rattle.rw_lp.specs.declared.held.Held.{Held}
use Rattle.rw_lp.specs.declared.answer.StepFault.TheVariants.{Straggler, StillDone}
use Rattle.rw_lp.specs.HeldMessages.{held_messages, held_of, unheld_sends, held_with, held_without}
use Rattle.rw_lp.specs.Process.{ProcessState, done, Turned, Stays, split_last, is_less_than_last, after_execution, execute_event, execute_least, execute_next, after_undoing, sends_of_last, undo_last, undo_one, undo_last_lazily, undo_lazily, deliver_message, annihilate, deliver_anti, deliver}
use Rattle.rw_lp.proofs.WithBags.{with_bags}
use Rattle.rw_lp.specs.Sound.{Stands, SoundAt, SoundLetters, Balance, Kept, Keeps}
use Rattle.rw_lp.proofs.Splits.{IsSplit, split_is}
use Rattle.rw_lp.proofs.Holding.{AllHeld, count-held_append, count-held_of, count-held_parts, count-unheld, count-unheld_le, held_more, held_rest, held_append, held_unheld, held_fresh, held_valid, held_from}
use Rattle.rw_lp.proofs.GivenOut.{no_letters, letters_sound, letters_join}

module _ {S B : Type 0} (y : Rules S B) {WellFormed : ℕ → S → Type 0} (law : AreLawful y WellFormed) where
  -- one more event: what is sent, and where it leads
  sent_push : (p : ℕ) (s : S) (xs : List (Event B)) (e a : Event B) → copies y.order a (sends_of (y.step p) s (xs ++ e ∷ [])) ≡ copies y.order a (sends_of (y.step p) s xs) + copies y.order a (y.step p (state_after (y.step p) s xs) e).1
  sent_push p s xs e a =
      let sends : List (Event B) = (y.step p (state_after (y.step p) s xs) e).1 in
      ap (copies y.order a) (outs-append (y.step p) s xs (e ∷ []) ∙ ap (λ l. sends_of (y.step p) s xs ++ l) (append-nil sends))
      ∙ copies-append law.exact a (sends_of (y.step p) s xs) sends

  count_push : (a e : Event B) (xs : List (Event B)) → copies y.order a (xs ++ e ∷ []) ≡ copies y.order a xs + one_if_same y.order a e
  count_push a e xs = omega (arith, copies-append law.exact a xs (e ∷ []))

  -- what is not less than the last goes to the end
  pub pushed : (e : Event B) (xs : List (Event B)) → IsAscending y.order xs → is_less_than_last y.order e (split_last xs) ≡ false → IsAscending y.order (xs ++ e ∷ [])
  pushed e xs s h = go (split_last xs) (split_is xs) h
    where
      go : (o : Option (List (Event B) × Event B)) → IsSplit xs o → is_less_than_last y.order e o ≡ false → IsAscending y.order (xs ++ e ∷ [])
      go None q k = subst (λ l. IsAscending y.order (l ++ e ∷ [])) (sym q) (Each-nil law.exact (λ a. AtMost y.order e a), tt)
      go (Some r) q k =
          let s' : IsAscending y.order (r.0 ++ r.1 ∷ []) = subst (IsAscending y.order) q s in
          subst (λ l. IsAscending y.order (l ++ e ∷ [])) (sym q) (IsAscending-push law.exact r.0 r.1 e s' k)

  -- a process's done events are well formed, and so is its state after any of them
  good_front : (g p : ℕ) (x : ProcessState S B) (xs ys : List (Event B)) → WellFormed p x.start → SoundAt y g p x → done x ≡ xs ++ ys → WellFormed p (state_after (y.step p) x.start xs)
  good_front g p x xs ys h at q =
      let all : Each y.order (Stands y p) (done x) = Each-append law.exact (Stands y p) x.committed x.processed at.committed_stand at.processed_stand in
      let front : Each y.order (Stands y p) xs = Each-front law.exact (Stands y p) xs ys (subst (Each y.order (Stands y p)) q all) in
      well_formed_after law p x.start xs h (λ a m. ((front a m).here, (front a m).valid))

  module _ (g p : ℕ) (x : ProcessState S B) (good_start : WellFormed p x.start) (at_p : SoundAt y g p x) where
    -- Execute

    executed_kept : (e : Event B) (rest : List (Event B)) → x.pending ≡ e ∷ rest → is_less_than_last y.order e (split_last (done x)) ≡ false → Kept y g p x (after_execution y p x e rest (unheld_sends y.order (y.step p x.state e).1 x.held).1) [] (letters_of false (unheld_sends y.order (y.step p x.state e).1 x.held).0 ++ letters_of true (held_with y.order e (unheld_sends y.order (y.step p x.state e).1 x.held).1))
    executed_kept e rest q late = record { sound = at_z; change = change; letters = letters }
      where
        z : ProcessState S B
        z = after_execution y p x e rest (unheld_sends y.order (y.step p x.state e).1 x.held).1

        sends : List (Event B)
        sends = (y.step p x.state e).1

        fresh : List (Event B)
        fresh = (unheld_sends y.order (y.step p x.state e).1 x.held).0

        left : List (Held B)
        left = (unheld_sends y.order (y.step p x.state e).1 x.held).1

        cancelled : List (Event B)
        cancelled = held_with y.order e left

        more : done z ≡ done x ++ e ∷ []
        more = sym (append_assoc x.committed x.processed (e ∷ []))

        change : Balance y p x z [] (letters_of false fresh ++ letters_of true cancelled)
        change = record {
          start = refl;
          kept = λ a.
              let d1 : copies y.order a (done z) ≡ copies y.order a (done x) + one_if_same y.order a e = ap (copies y.order a) more ∙ count_push a e (done x) in
              let p1 : copies y.order a x.pending ≡ one_if_same y.order a e + copies y.order a rest = ap (copies y.order a) q in
              omega arith;
          sent = λ a.
              let s1 : copies y.order a (sends_of (y.step p) x.start (done z)) ≡ copies y.order a (sends_of (y.step p) x.start (done x)) + copies y.order a sends =
              ap (λ l. copies y.order a (sends_of (y.step p) x.start l)) more ∙ sent_push p x.start (done x) e a ∙ ap (λ s. copies y.order a (sends_of (y.step p) x.start (done x)) + copies y.order a (y.step p s e).1) (sym at_p.state) in
              omega (arith, messages-append y.order a (letters_of false fresh) (letters_of true cancelled), antis-append y.order a (letters_of false fresh) (letters_of true cancelled), messages_sent y.order a fresh, antis_sent y.order a fresh, messages_unsent y.order a cancelled, antis_unsent y.order a cancelled, count-unheld y law.exact a sends x.held, count-held_parts y a e left);
        }

        there : 0 < copies y.order e x.pending
        there = subst (λ l. 0 < copies y.order e l) (sym q) (Has-head law.exact e rest)

        all_left : AllHeld y x.pending left
        all_left = held_unheld y x.pending sends x.held at_p.held

        still : (a : Event B) → is_eq (y.order a e) ≡ false → 0 < copies y.order a x.pending → 0 < copies y.order a rest
        still a n k =
            let none : one_if_same y.order a e ≡ 0 = one_if-other law.exact a e n in
            let p1 : copies y.order a x.pending ≡ one_if_same y.order a e + copies y.order a rest = ap (copies y.order a) q in
            omega arith

        at_z : SoundAt y g p z
        at_z = record {
          order = subst (IsAscending y.order) (sym more) (pushed e (done x) at_p.order late);
          state = ap (λ s. (y.step p s e).0) at_p.state ∙ sym (ap (state_after (y.step p) x.start) more ∙ after-append (y.step p) x.start (done x) (e ∷ []));
          committed_stand = at_p.committed_stand;
          committed_below = at_p.committed_below;
          processed_stand = Each-append law.exact (Stands y p) x.processed (e ∷ []) at_p.processed_stand (Each-cons law.exact (Stands y p) e [] (at_p.pending_stand e there) (λ a k. absurd (omega arith)));
          processed_from = Each-append law.exact (λ a. g ≤ a.time) x.processed (e ∷ []) at_p.processed_from (Each-cons law.exact (λ a. g ≤ a.time) e [] (at_p.pending_from e there) (λ a k. absurd (omega arith)));
          pending_stand = Each-tail law.exact (Stands y p) e rest (subst (Each y.order (Stands y p)) q at_p.pending_stand);
          pending_from = Each-tail law.exact (λ a. g ≤ a.time) e rest (subst (Each y.order (λ a. g ≤ a.time)) q at_p.pending_from);
          pending_order = (subst (IsAscending y.order) q at_p.pending_order).1;
          debts_stand = at_p.debts_stand;
          debts_from = at_p.debts_from;
          debts_order = at_p.debts_order;
          held = held_rest y e x.pending rest still left all_left;
        }

        good : WellFormed p x.state
        good = subst (WellFormed p) (sym at_p.state) (good_front g p x (done x) [] good_start at_p (sym (append-nil (done x))))

        letters : SoundLetters y g (letters_of false fresh ++ letters_of true cancelled)
        letters =
            letters_join y g (letters_of false fresh) (letters_of true cancelled)
            (letters_sound y g false fresh
            (λ a k. (each_sent law p x.state e a good (at_p.pending_stand e there).valid (at_p.pending_stand e there).here (omega (arith, count-unheld_le y law.exact a sends x.held))).0)
            (λ a k. let late : e.time < a.time = (each_sent law p x.state e a good (at_p.pending_stand e there).valid (at_p.pending_stand e there).here (omega (arith, count-unheld_le y law.exact a sends x.held))).1 in let early = at_p.pending_from e there in omega arith))
            (letters_sound y g true cancelled
            (λ a k. held_valid y law x.pending left all_left a (omega (arith, count-held_parts y a e left)))
            (λ a k. held_from y law g x.pending at_p.pending_from left all_left a (omega (arith, count-held_parts y a e left))))

    pub execute_keeps : Keeps y g p x [] (execute_next y p x)
    execute_keeps = next x.pending refl
      where
        late : (e : Event B) (rest : List (Event B)) → x.pending ≡ e ∷ rest → (b : Bool) → is_less_than_last y.order e (split_last (done x)) ≡ b → Keeps y g p x [] (cond b (Stays Straggler) (execute_event y p x e rest (unheld_sends y.order (y.step p x.state e).1 x.held)))
        late e rest q true h = tt
        late e rest q false h = executed_kept e rest q h

        next : (es : List (Event B)) → x.pending ≡ es → Keeps y g p x [] (execute_least y p x es)
        next [] q = tt
        next (e ∷ rest) q = late e rest q (is_less_than_last y.order e (split_last (done x))) refl

    -- Undo

    undone_kept : (front : List (Event B)) (e : Event B) → x.processed ≡ front ++ e ∷ [] → (Kept y g p x (after_undoing y p x front e x.held) [] (letters_of true (sends_of_last y p x front e))) × (Kept y g p x (after_undoing y p x front e (x.held ++ held_of e (sends_of_last y p x front e))) [] [])
    undone_kept front e q = (
      record { sound = at_z x.held all_more; change = change; letters = letters },
      record { sound = at_z (x.held ++ held_of e sends) (held_append y (insert_in_order y.order e x.pending) x.held (held_of e sends) all_more fresh); change = change_lazily; letters = no_letters y g },
    )
      where
        z : List (Held B) → ProcessState S B
        z held = after_undoing y p x front e held

        sends : List (Event B)
        sends = sends_of_last y p x front e

        more : done x ≡ (x.committed ++ front) ++ e ∷ []
        more = ap (λ l. x.committed ++ l) q ∙ sym (append_assoc x.committed front (e ∷ []))

        kept : (a : Event B) → copies y.order a (x.committed ++ front) + copies y.order a (insert_in_order y.order e x.pending) + copies y.order a x.debts + 0 ≡ copies y.order a (done x) + copies y.order a x.pending + copies y.order a x.debts + 0
        kept a =
            let d1 : copies y.order a (done x) ≡ copies y.order a (x.committed ++ front) + one_if_same y.order a e = ap (copies y.order a) more ∙ count_push a e (x.committed ++ front) in
            let p1 : copies y.order a (insert_in_order y.order e x.pending) ≡ one_if_same y.order a e + copies y.order a x.pending = copies-insert law.exact a e x.pending in
            omega arith

        sent : (a : Event B) → copies y.order a (sends_of (y.step p) x.start (done x)) ≡ copies y.order a (sends_of (y.step p) x.start (x.committed ++ front)) + copies y.order a sends
        sent a = ap (λ l. copies y.order a (sends_of (y.step p) x.start l)) more ∙ sent_push p x.start (x.committed ++ front) e a

        change : Balance y p x (z x.held) [] (letters_of true sends)
        change = record { start = refl; kept = kept; sent = λ a. omega (arith, sent a, messages_unsent y.order a sends, antis_unsent y.order a sends) }

        change_lazily : Balance y p x (z (x.held ++ held_of e sends)) [] []
        change_lazily = record { start = refl; kept = kept; sent = λ a. omega (arith, sent a, count-held_append y a x.held (held_of e sends), count-held_of y a e sends) }

        there : 0 < copies y.order e x.processed
        there = subst (λ l. 0 < copies y.order e l) (sym q) (omega (arith, copies-append law.exact e front (e ∷ []), Has-head law.exact e []))

        good : WellFormed p (state_after (y.step p) x.start (x.committed ++ front))
        good = good_front g p x (x.committed ++ front) (e ∷ []) good_start at_p more

        from_there : (a : Event B) → 0 < copies y.order a sends → (y.valid a ≡ true) × (e.time < a.time)
        from_there a k = each_sent law p (state_after (y.step p) x.start (x.committed ++ front)) e a good (at_p.processed_stand e there).valid (at_p.processed_stand e there).here k

        all_more : AllHeld y (insert_in_order y.order e x.pending) x.held
        all_more = held_more y x.pending (insert_in_order y.order e x.pending) (λ a k. omega (arith, copies-insert law.exact a e x.pending)) x.held at_p.held

        fresh : AllHeld y (insert_in_order y.order e x.pending) (held_of e sends)
        fresh = held_fresh y law e (insert_in_order y.order e x.pending) sends (omega (arith, copies-insert law.exact e e x.pending, one_if-itself law.exact e)) from_there

        at_z : (held : List (Held B)) → AllHeld y (insert_in_order y.order e x.pending) held → SoundAt y g p (z held)
        at_z held all = record {
          order = IsAscending-front law.exact (x.committed ++ front) (e ∷ []) (subst (IsAscending y.order) more at_p.order);
          state = refl;
          committed_stand = at_p.committed_stand;
          committed_below = at_p.committed_below;
          processed_stand = Each-front law.exact (Stands y p) front (e ∷ []) (subst (Each y.order (Stands y p)) q at_p.processed_stand);
          processed_from = Each-front law.exact (λ a. g ≤ a.time) front (e ∷ []) (subst (Each y.order (λ a. g ≤ a.time)) q at_p.processed_from);
          pending_stand = Each-insert law.exact (Stands y p) e x.pending (at_p.processed_stand e there) at_p.pending_stand;
          pending_from = Each-insert law.exact (λ a. g ≤ a.time) e x.pending (at_p.processed_from e there) at_p.pending_from;
          pending_order = IsAscending-insert law.exact e x.pending at_p.pending_order;
          debts_stand = at_p.debts_stand;
          debts_from = at_p.debts_from;
          debts_order = at_p.debts_order;
          held = all;
        }

        letters : SoundLetters y g (letters_of true sends)
        letters =
            letters_sound y g true sends
            (λ a k. (from_there a k).0)
            (λ a k. let late : e.time < a.time = (from_there a k).1 in let early = at_p.processed_from e there in omega arith)

    pub undo_keeps : Keeps y g p x [] (undo_one y p x)
    undo_keeps = last (split_last x.processed) (split_is x.processed)
      where
        last : (o : Option (List (Event B) × Event B)) → IsSplit x.processed o → Keeps y g p x [] (undo_last y p x o)
        last None q = tt
        last (Some r) q = (undone_kept r.0 r.1 q).0

    pub undo_lazily_keeps : Keeps y g p x [] (undo_lazily y p x)
    undo_lazily_keeps = last (split_last x.processed) (split_is x.processed)
      where
        last : (o : Option (List (Event B) × Event B)) → IsSplit x.processed o → Keeps y g p x [] (undo_last_lazily y p x o)
        last None q = tt
        last (Some r) q = (undone_kept r.0 r.1 q).1

    -- Deliver: the bags change so that the counts stay

    bags_kept : (l : Letter B) (pending debts : List (Event B)) (held : List (Held B)) (out : List (Letter B)) →
        ((a : Event B) → copies y.order a pending + copies y.order a x.debts + antis y.order a (l ∷ []) ≡ copies y.order a x.pending + copies y.order a debts + messages y.order a (l ∷ [])) →
        ((a : Event B) → copies y.order a (held_messages held) + antis y.order a out ≡ copies y.order a (held_messages x.held) + messages y.order a out) →
        AllHeld y pending held → SoundLetters y g out →
        Each y.order (Stands y p) pending → Each y.order (λ a. g ≤ a.time) pending → IsAscending y.order pending → Each y.order (Stands y p) debts → Each y.order (λ a. g ≤ a.time) debts → IsAscending y.order debts →
        Kept y g p x (with_bags x pending debts held) (l ∷ []) out
    bags_kept l pending debts held out counts cancels all letters ps pf po ds df dp = record {
      sound = record {
        order = at_p.order;
        state = at_p.state;
        committed_stand = at_p.committed_stand;
        committed_below = at_p.committed_below;
        processed_stand = at_p.processed_stand;
        processed_from = at_p.processed_from;
        pending_stand = ps;
        pending_from = pf;
        pending_order = po;
        debts_stand = ds;
        debts_from = df;
        debts_order = dp;
        held = all;
      };
      change = record { start = refl; kept = λ a. omega (arith, counts a); sent = λ a. omega (arith, cancels a) };
      letters = letters;
    }

    module _ (l : Letter B) (here : Stands y p l.event) (from : g ≤ l.event.time) where
      message_keeps : l.anti ≡ false → Keeps y g p x (l ∷ []) (deliver_message y.order l.event x)
      message_keeps kind = go (has y.order l.event x.debts) refl
        where
          m1 : (a : Event B) → messages y.order a (l ∷ []) ≡ one_if_same y.order a l.event + 0
          m1 a = ap (λ b. cond b 0 (one_if_same y.order a l.event) + 0) kind

          a1 : (a : Event B) → antis y.order a (l ∷ []) ≡ 0
          a1 a = ap (λ b. cond b (one_if_same y.order a l.event) 0 + 0) kind

          go : (b : Bool) → has y.order l.event x.debts ≡ b → Keeps y g p x (l ∷ []) (cond b (Turned (with_bags x x.pending (without y.order l.event x.debts) x.held) []) (Turned (with_bags x (insert_in_order y.order l.event x.pending) x.debts x.held) []))
          go true h =
              bags_kept l x.pending (without y.order l.event x.debts) x.held []
              (λ a. omega (arith, m1 a, a1 a, copies-without law.exact a l.event x.debts h)) (λ a. refl) at_p.held (no_letters y g)
              at_p.pending_stand at_p.pending_from at_p.pending_order
              (Each-without law.exact (Stands y p) l.event x.debts at_p.debts_stand)
              (Each-without law.exact (λ a. g ≤ a.time) l.event x.debts at_p.debts_from)
              (IsAscending-without law.exact l.event x.debts at_p.debts_order)
          go false h =
              bags_kept l (insert_in_order y.order l.event x.pending) x.debts x.held []
              (λ a. omega (arith, m1 a, a1 a, copies-insert law.exact a l.event x.pending)) (λ a. refl)
              (held_more y x.pending (insert_in_order y.order l.event x.pending) (λ a k. omega (arith, copies-insert law.exact a l.event x.pending)) x.held at_p.held) (no_letters y g)
              (Each-insert law.exact (Stands y p) l.event x.pending here at_p.pending_stand)
              (Each-insert law.exact (λ a. g ≤ a.time) l.event x.pending from at_p.pending_from)
              (IsAscending-insert law.exact l.event x.pending at_p.pending_order)
              at_p.debts_stand at_p.debts_from at_p.debts_order

      anti_keeps : l.anti ≡ true → Keeps y g p x (l ∷ []) (deliver_anti y.order l.event x)
      anti_keeps kind = go (has y.order l.event x.pending) (has y.order l.event x.processed) refl
        where
          m1 : (a : Event B) → messages y.order a (l ∷ []) ≡ 0
          m1 a = ap (λ b. cond b 0 (one_if_same y.order a l.event) + 0) kind

          a1 : (a : Event B) → antis y.order a (l ∷ []) ≡ one_if_same y.order a l.event + 0
          a1 a = ap (λ b. cond b (one_if_same y.order a l.event) 0 + 0) kind

          mine : (a : Event B) → is_eq (y.order a l.event) ≡ false → one_if_same y.order a l.event ≡ 0
          mine a n = one_if-other law.exact a l.event n

          same_event : (a : Event B) → is_eq (y.order a l.event) ≡ true → 0 < copies y.order l.event (without y.order l.event x.pending) → 0 < copies y.order a (without y.order l.event x.pending)
          same_event a n k = subst (λ v. 0 < copies y.order v (without y.order l.event x.pending)) (sym (tied law.exact a l.event n)) k

          still : has y.order l.event x.pending ≡ true → has y.order l.event (without y.order l.event x.pending) ≡ true → (a : Event B) → 0 < copies y.order a x.pending → 0 < copies y.order a (without y.order l.event x.pending)
          still h more a k = ⊎_elim (λ n. same_event a n (Has-test law.exact l.event (without y.order l.event x.pending) more)) (λ n. omega (arith, mine a n, copies-without law.exact a l.event x.pending h)) (cases_Bool (is_eq (y.order a l.event)))

          gone : (b : Bool) → has y.order l.event x.pending ≡ true → has y.order l.event (without y.order l.event x.pending) ≡ b → Keeps y g p x (l ∷ []) (cond b (Turned (with_bags x (without y.order l.event x.pending) x.debts x.held) []) (Turned (with_bags x (without y.order l.event x.pending) x.debts (held_without y.order l.event x.held)) (letters_of true (held_with y.order l.event x.held))))
          gone true h more =
              bags_kept l (without y.order l.event x.pending) x.debts x.held []
              (λ a. omega (arith, m1 a, a1 a, copies-without law.exact a l.event x.pending h)) (λ a. refl)
              (held_more y x.pending (without y.order l.event x.pending) (still h more) x.held at_p.held) (no_letters y g)
              (Each-without law.exact (Stands y p) l.event x.pending at_p.pending_stand)
              (Each-without law.exact (λ a. g ≤ a.time) l.event x.pending at_p.pending_from)
              (IsAscending-without law.exact l.event x.pending at_p.pending_order)
              at_p.debts_stand at_p.debts_from at_p.debts_order
          gone false h more =
              bags_kept l (without y.order l.event x.pending) x.debts (held_without y.order l.event x.held) (letters_of true (held_with y.order l.event x.held))
              (λ a. omega (arith, m1 a, a1 a, copies-without law.exact a l.event x.pending h))
              (λ a. omega (arith, count-held_parts y a l.event x.held, messages_unsent y.order a (held_with y.order l.event x.held), antis_unsent y.order a (held_with y.order l.event x.held)))
              (held_rest y l.event x.pending (without y.order l.event x.pending) (λ a n k. omega (arith, mine a n, copies-without law.exact a l.event x.pending h)) x.held at_p.held)
              (letters_sound y g true (held_with y.order l.event x.held)
              (λ a k. held_valid y law x.pending x.held at_p.held a (omega (arith, count-held_parts y a l.event x.held)))
              (λ a k. held_from y law g x.pending at_p.pending_from x.held at_p.held a (omega (arith, count-held_parts y a l.event x.held))))
              (Each-without law.exact (Stands y p) l.event x.pending at_p.pending_stand)
              (Each-without law.exact (λ a. g ≤ a.time) l.event x.pending at_p.pending_from)
              (IsAscending-without law.exact l.event x.pending at_p.pending_order)
              at_p.debts_stand at_p.debts_from at_p.debts_order

          go : (b c : Bool) → has y.order l.event x.pending ≡ b → Keeps y g p x (l ∷ []) (cond b (annihilate y.order l.event x) (cond c (Stays StillDone) (Turned (with_bags x x.pending (insert_in_order y.order l.event x.debts) x.held) [])))
          go true c h = gone (has y.order l.event (without y.order l.event x.pending)) h refl
          go false true h = tt
          go false false h =
              bags_kept l x.pending (insert_in_order y.order l.event x.debts) x.held []
              (λ a. omega (arith, m1 a, a1 a, copies-insert law.exact a l.event x.debts)) (λ a. refl) at_p.held (no_letters y g)
              at_p.pending_stand at_p.pending_from at_p.pending_order
              (Each-insert law.exact (Stands y p) l.event x.debts here at_p.debts_stand)
              (Each-insert law.exact (λ a. g ≤ a.time) l.event x.debts from at_p.debts_from)
              (IsAscending-insert law.exact l.event x.debts at_p.debts_order)

      pub deliver_keeps : Keeps y g p x (l ∷ []) (deliver y.order l x)
      deliver_keeps = go l.anti refl
        where
          go : (b : Bool) → l.anti ≡ b → Keeps y g p x (l ∷ []) (cond b (deliver_anti y.order l.event x) (deliver_message y.order l.event x))
          go true h = anti_keeps h
          go false h = message_keeps h

-- Events in the slots of a wheel.
use Rattle.std.proofs.Common.{◌≡◌, ℕ, zero, suc, ◌<◌, ◌≤◌, ◌⊎◌, inl, inr, refl, sym, ◌∙◌, ap, subst, arith, List, [], ◌∷◌, ◌++◌, append_assoc, append-nil, All, IfNone, IfSome, IsPermutation, Option, Some, None, false, true≢false, length, get_or, take, drop}
use Rattle.std.specs.Prelude.{Result, Ok, Err, OnErr, OnOk}
use Rattle.std.proofs.Math.ListN.{set}
use Rattle.std.specs.Prelude.{◌≢◌, ◌↔◌}
use Rattle.std.specs.Option.{is_some}
use Rattle.std.proofs.lemmas.Bool.{cases_eq, cases_lt, cases_order}
use Rattle.std.proofs.lemmas.Grind.{get_or-set_at}
use Rattle.std.proofs.lemmas.List.{get_or-set_other, set-get_or, take-append-drop}
use Rattle.std.proofs.lemmas.List.Elements.{All-append, All-nil, All-push}
use Rattle.std.proofs.lemmas.List.Sorted.{All-permutation, IsPermutation-append_comm, IsPermutation-append_left, IsPermutation-append_right, IsPermutation-refl, IsPermutation-sym, IsPermutation-trans}
use Rattle.rw_vt.specs.declared.event.Event.{Event}
use Rattle.rw_vt.specs.Limits.{end_of_time}
use Rattle.rw_pending.specs.Later.{HasMoved, IsLeastOr, IsLeastTime, IsLeft, never}
use Rattle.rw_pending.specs.Wheel.{AreInPlace, AreMarked, HasMovedFromSlots, IsChangedAt, IsLeastOfFirst, IsInSlot, all_of, mark_at, slot_at, slot_of}
use Rattle.rw_pending.proofs.ByTime.{All-back, All-front, left_moved, none_permuted}
use Rattle.rw_pending.proofs.Marking.{beyond}
use Rattle.rw_pending.proofs.Places.{slot_kept, slot_rises}

read_same : {X : Type 0} (xs : List X) (i : ℕ) (d e : X) → i < length xs → get_or xs i d ≡ get_or xs i e
read_same [] i d e l = absurd (omega arith)
read_same (x ∷ xs) zero d e l = refl
read_same (x ∷ xs) (suc i) d e l = read_same xs i d e (omega arith)

-- Lists of lists

module _ {B : Type 0} where
  pub all_from_slots : (P : Event B → Type 0) (slots : List (List (Event B))) → ((k : ℕ) → All P (slot_at slots k)) → All P (all_of slots)
  all_from_slots P [] h = All-nil P
  all_from_slots P (x ∷ xs) h = All-append P x (all_of xs) (h 0) (all_from_slots P xs (λ k. h (suc k)))

  pub slot_from_all : (P : Event B → Type 0) (slots : List (List (Event B))) (k : ℕ) → All P (all_of slots) → All P (slot_at slots k)
  slot_from_all P [] k h = All-nil P
  slot_from_all P (x ∷ xs) zero h = All-front P x (all_of xs) h
  slot_from_all P (x ∷ xs) (suc k) h = slot_from_all P xs k (All-back P x (all_of xs) h)

  pub none_of_all : (slots : List (List (Event B))) → ((k : ℕ) → slot_at slots k ≡ []) → all_of slots ≡ []
  none_of_all [] h = refl
  none_of_all (x ∷ xs) h = ap (λ l. l ++ all_of xs) (h 0) ∙ none_of_all xs (λ k. h (suc k))

  pub slot_none : (slots : List (List (Event B))) (k : ℕ) → all_of slots ≡ [] → slot_at slots k ≡ []
  slot_none [] k h = refl
  slot_none ([] ∷ xs) zero h = refl
  slot_none ([] ∷ xs) (suc k) h = slot_none xs k h
  slot_none ((e ∷ x) ∷ xs) k h = cc

  -- what comes to a slot and what goes from it

  all_moved : (slots : List (List (Event B))) (at : ℕ) (new came gone : List (Event B)) → at < length slots → IsPermutation (slot_at slots at ++ came) (gone ++ new)
      → IsPermutation (all_of slots ++ came) (gone ++ all_of (set slots at new))
  all_moved [] at new came gone l h = absurd (omega arith)
  all_moved (x ∷ xs) zero new came gone l h =
      let rest = all_of xs in
      subst (λ w. IsPermutation w (gone ++ (new ++ rest))) (sym (append_assoc x rest came))
      (IsPermutation-trans (x ++ (rest ++ came)) (x ++ (came ++ rest)) (gone ++ (new ++ rest)) (IsPermutation-append_right x (rest ++ came) (came ++ rest) (IsPermutation-append_comm rest came))
      (subst (λ w. IsPermutation w (gone ++ (new ++ rest))) (append_assoc x came rest)
      (subst (IsPermutation ((x ++ came) ++ rest)) (append_assoc gone new rest) (IsPermutation-append_left rest (x ++ came) (gone ++ new) h))))
  all_moved (x ∷ xs) (suc at) new came gone l h =
      let rest = all_of xs in
      let left = all_of (set xs at new) in
      subst (λ w. IsPermutation w (gone ++ (x ++ left))) (sym (append_assoc x rest came))
      (IsPermutation-trans (x ++ (rest ++ came)) (x ++ (gone ++ left)) (gone ++ (x ++ left)) (IsPermutation-append_right x (rest ++ came) (gone ++ left) (all_moved xs at new came gone (omega arith) h))
      (subst (λ w. IsPermutation w (gone ++ (x ++ left))) (append_assoc x gone left)
      (subst (IsPermutation ((x ++ gone) ++ left)) (append_assoc gone x left) (IsPermutation-append_left left (x ++ gone) (gone ++ x) (IsPermutation-append_comm x gone)))))

  pub changed_by_set : (slots : List (List (Event B))) (at : ℕ) (new : List (Event B)) → at < length slots → IsChangedAt at slots (set slots at new)
  changed_by_set slots at new l = record {
    others = λ k ne. get_or-set_other slots at k new [] ne;
    all = λ came gone h. all_moved slots at new came gone l (subst (λ w. IsPermutation (slot_at slots at ++ came) (gone ++ w)) (get_or-set_at slots at at new [] refl l) h);
  }

  pub changed_none : (slots : List (List (Event B))) (at : ℕ) → length slots ≤ at → IsChangedAt at slots slots
  changed_none slots at l = record {
    others = λ k ne. refl;
    all = λ came gone h.
        let none = beyond slots at [] l in
        let moved : IsPermutation came gone = subst (λ w. IsPermutation came w) (append-nil gone) (subst (λ w. IsPermutation (w ++ came) (gone ++ w)) none h) in
        IsPermutation-trans (all_of slots ++ came) (all_of slots ++ gone) (gone ++ all_of slots) (IsPermutation-append_right (all_of slots) came gone moved) (IsPermutation-append_comm (all_of slots) gone);
  }

  changed_self : (slots : List (List (Event B))) (at : ℕ) → IsChangedAt at slots slots
  changed_self slots at = go (cases_lt at (length slots))
    where
      go : (at < length slots) ⊎ (length slots ≤ at) → IsChangedAt at slots slots
      go (inl l) = subst (IsChangedAt at slots) (set-get_or slots at []) (changed_by_set slots at (slot_at slots at) l)
      go (inr l) = changed_none slots at l

  pub changed_same : (at : ℕ) (slots same : List (List (Event B))) → ((k : ℕ) → slot_at same k ≡ slot_at slots k) → all_of same ≡ all_of slots → IsChangedAt at slots same
  changed_same at slots same by_slot all = record {
    others = λ k ne. by_slot k;
    all = λ came gone h. subst (λ w. IsPermutation (all_of slots ++ came) (gone ++ w)) (sym all) ((changed_self slots at).all came gone (subst (λ w. IsPermutation (slot_at slots at ++ came) (gone ++ w)) (by_slot at) h));
  }

  -- after others that hold the same
  pub changed_after : (at : ℕ) (slots same after : List (List (Event B))) → ((k : ℕ) → slot_at same k ≡ slot_at slots k) → all_of same ≡ all_of slots → IsChangedAt at same after → IsChangedAt at slots after
  changed_after at slots same after by_slot all changed = record {
    others = λ k ne. changed.others k ne ∙ by_slot k;
    all = λ came gone h. subst (λ w. IsPermutation (w ++ came) (gone ++ all_of after)) all (changed.all came gone (subst (λ w. IsPermutation (w ++ came) (gone ++ slot_at after at)) (sym (by_slot at)) h));
  }

  -- one more, one less and less

  pub one_more : (at : ℕ) (slots after : List (List (Event B))) (e : Event B) → IsChangedAt at slots after → slot_at after at ≡ slot_at slots at ++ e ∷ [] → IsPermutation (all_of slots ++ e ∷ []) (all_of after)
  one_more at slots after e changed is = changed.all (e ∷ []) [] (subst (IsPermutation (slot_at slots at ++ e ∷ [])) (sym is) (IsPermutation-refl (slot_at slots at ++ e ∷ [])))

  pub gone_of_all : (at : ℕ) (slots after : List (List (Event B))) (gone : List (Event B)) → IsChangedAt at slots after → IsPermutation (slot_at slots at) (gone ++ slot_at after at) → IsPermutation (all_of slots) (gone ++ all_of after)
  gone_of_all at slots after gone changed h =
      subst (λ w. IsPermutation w (gone ++ all_of after)) (append-nil (all_of slots))
      (changed.all [] gone (subst (λ w. IsPermutation w (gone ++ slot_at after at)) (sym (append-nil (slot_at slots at))) h))

  pub left_of_slot : (xs us : List (Event B)) (next : Option (Event B)) → IfSome next (λ e. IsPermutation xs (e ∷ us)) → IfNone next (us ≡ xs) → IsLeft xs us
  left_of_slot xs us None taken same = record { gone = []; parts = subst (λ w. IsPermutation xs w) (sym same) (IsPermutation-refl xs) }
  left_of_slot xs us (Some e) taken same = record { gone = e ∷ []; parts = taken }

  pub left_none : (xs us : List (Event B)) → IsLeft xs us → xs ≡ [] → us ≡ []
  left_none xs us left none = go left.gone us (none_permuted xs (left.gone ++ us) left.parts none)
    where
      go : (gone us : List (Event B)) → gone ++ us ≡ [] → us ≡ []
      go [] us h = h
      go (e ∷ gone) us h = cc

  -- Marks

  pub marked_put : (marks after : List ℕ) (slots new : List (List (Event B))) (at : ℕ) (e : Event B) → AreMarked marks slots → mark_at after at ≡ 1 → ((k : ℕ) → k ≢ at → mark_at after k ≡ mark_at marks k)
      → IsChangedAt at slots new → slot_at new at ≡ slot_at slots at ++ e ∷ [] → AreMarked after new
  marked_put marks after slots new at e h one others changed is = record { marked = λ k. go k (cases_eq k at) }
    where
      more : (xs ys : List (Event B)) → ys ≡ xs ++ e ∷ [] → ys ≡ [] → ⊥
      more [] ys i none = cc
      more (x ∷ xs) ys i none = cc

      go : (k : ℕ) → (k ≡ at) ⊎ (k ≡ at → ⊥) → (mark_at after k ≡ 0) ↔ (slot_at new k ≡ [])
      go k (inl same) = (
        λ z. let two : ◌≡◌ {A = ℕ} 0 1 = sym (subst (λ i. mark_at after i ≡ 0) same z) ∙ one in absurd (omega arith),
        λ z. absurd (more (slot_at slots at) (slot_at new at) is (subst (λ i. slot_at new i ≡ []) same z)),
      )
      go k (inr ne) = (λ z. changed.others k ne ∙ (h.marked k).0 (sym (others k ne) ∙ z), λ z. others k ne ∙ (h.marked k).1 (sym (changed.others k ne) ∙ z))

  pub marked_clear : (marks after : List ℕ) (slots new : List (List (Event B))) (at : ℕ) → AreMarked marks slots → mark_at after at ≡ 0 → ((k : ℕ) → k ≢ at → mark_at after k ≡ mark_at marks k)
      → IsChangedAt at slots new → slot_at new at ≡ [] → AreMarked after new
  marked_clear marks after slots new at h zero_at others changed none = record { marked = λ k. go k (cases_eq k at) }
    where
      go : (k : ℕ) → (k ≡ at) ⊎ (k ≡ at → ⊥) → (mark_at after k ≡ 0) ↔ (slot_at new k ≡ [])
      go k (inl same) = (λ z. subst (λ i. slot_at new i ≡ []) (sym same) none, λ z. subst (λ i. mark_at after i ≡ 0) (sym same) zero_at)
      go k (inr ne) = (λ z. changed.others k ne ∙ (h.marked k).0 (sym (others k ne) ∙ z), λ z. others k ne ∙ (h.marked k).1 (sym (changed.others k ne) ∙ z))

  pub marked_kept : (marks : List ℕ) (slots new : List (List (Event B))) (at : ℕ) → AreMarked marks slots → IsChangedAt at slots new → IsLeft (slot_at slots at) (slot_at new at) → (slot_at new at ≡ [] → ⊥) → AreMarked marks new
  marked_kept marks slots new at h changed left some = record { marked = λ k. go k (cases_eq k at) }
    where
      go : (k : ℕ) → (k ≡ at) ⊎ (k ≡ at → ⊥) → (mark_at marks k ≡ 0) ↔ (slot_at new k ≡ [])
      go k (inl same) = (
        λ z. absurd (some (left_none (slot_at slots at) (slot_at new at) left ((h.marked at).0 (subst (λ i. mark_at marks i ≡ 0) same z)))),
        λ z. absurd (some (subst (λ i. slot_at new i ≡ []) same z)),
      )
      go k (inr ne) = (λ z. changed.others k ne ∙ (h.marked k).0 z, λ z. (h.marked k).1 (sym (changed.others k ne) ∙ z))

  pub marked_same : (marks : List ℕ) (slots new : List (List (Event B))) → AreMarked marks slots → ((k : ℕ) → slot_at new k ≡ slot_at slots k) → AreMarked marks new
  marked_same marks slots new h same = record { marked = λ k. (λ z. same k ∙ (h.marked k).0 z, λ z. (h.marked k).1 (sym (same k) ∙ z)) }

  -- The slots as the code writes them

  pub slot_is : (slots : List (List (Event B))) (at : ℕ) (slot : List (Event B)) → at < length slots → slot ≡ get_or slots at slot → slot ≡ slot_at slots at
  slot_is slots at slot l is = is ∙ read_same slots at slot [] l

  none_of_length : (xs : List (Event B)) → length xs ≡ 0 → xs ≡ []
  none_of_length [] h = refl
  none_of_length (x ∷ xs) h = absurd (omega arith)

  some_of_length : (xs : List (Event B)) → (length xs ≡ 0 → ⊥) → xs ≡ [] → ⊥
  some_of_length xs h none = h (ap length none)

  pub marked_by_clear : (marks after : List ℕ) (slots : List (List (Event B))) (at : ℕ) (new : List (Event B)) → AreMarked marks slots → at < length slots → mark_at after at ≡ 0
      → ((k : ℕ) → k ≢ at → mark_at after k ≡ mark_at marks k) → length new ≡ 0 → AreMarked after (set slots at new)
  marked_by_clear marks after slots at new h l zero_at others empty =
      marked_clear marks after slots (set slots at new) at h zero_at others (changed_by_set slots at new l) (get_or-set_at slots at at new [] refl l ∙ none_of_length new empty)

  pub marked_by_set : (marks : List ℕ) (slots : List (List (Event B))) (at : ℕ) (old new : List (Event B)) → AreMarked marks slots → at < length slots → old ≡ get_or slots at old → IsLeft old new → (length new ≡ 0 → ⊥)
      → AreMarked marks (set slots at new)
  marked_by_set marks slots at old new h l is left some =
      let here = get_or-set_at slots at at new [] refl l in
      marked_kept marks slots (set slots at new) at h (changed_by_set slots at new l)
      (subst (λ w. IsLeft w (slot_at (set slots at new) at)) (slot_is slots at old l is) (subst (IsLeft old) (sym here) left))
      (λ none. some_of_length new some (sym here ∙ none))

  pub marked_by_put : (marks after : List ℕ) (slots : List (List (Event B))) (at : ℕ) (old new : List (Event B)) (e : Event B) → AreMarked marks slots → at < length slots → old ≡ get_or slots at old → new ≡ old ++ e ∷ [] → mark_at after at ≡ 1
      → ((k : ℕ) → k ≢ at → mark_at after k ≡ mark_at marks k) → AreMarked after (set slots at new)
  marked_by_put marks after slots at old new e h l is more one others =
      marked_put marks after slots (set slots at new) at e h one others (changed_by_set slots at new l) (get_or-set_at slots at at new [] refl l ∙ more ∙ ap (λ w. w ++ e ∷ []) (slot_is slots at old l is))

  pub left_of_result : {T E : Type 0} (t : ℕ) (xs us taken all : List (Event B)) (r : Result T E) → OnOk r (HasMoved t xs us taken all) → OnErr r (IsLeft xs us) → IsLeft xs us
  left_of_result t xs us taken all (Ok x) moved left = left_moved moved
  left_of_result t xs us taken all (Err x) moved left = left

  pub moved_nothing : (t : ℕ) (xs taken : List (Event B)) → xs ≡ [] → HasMoved t xs xs taken taken
  moved_nothing t xs taken none = record {
    moved = [];
    behind = sym (append-nil taken);
    parts = IsPermutation-refl xs;
    of_time = All-nil (λ e. e.time ≡ t);
    later = subst (All (λ e. t < e.time)) (sym none) (All-nil (λ e. t < e.time));
  }

  pub least_none : (slots : List (List (Event B))) → ((k : ℕ) → slot_at slots k ≡ []) → IsLeastOfFirst slots never
  least_none slots none = record {
    at = 0;
    before = λ k l. absurd (omega arith);
    least = subst (λ w. IsLeastOr never w never) (sym (none 0)) (record { found = None; least = refl; value = refl; within = omega arith });
    none = λ here. none_of_all slots none;
  }

  pub more_slots : (slots : List (List (Event B))) (k : ℕ) → slot_at (slots ++ [] ∷ []) k ≡ slot_at slots k
  more_slots [] zero = refl
  more_slots [] (suc k) = refl
  more_slots (x ∷ xs) zero = refl
  more_slots (x ∷ xs) (suc k) = more_slots xs k

  pub all_of_more : (slots : List (List (Event B))) → all_of (slots ++ [] ∷ []) ≡ all_of slots
  all_of_more [] = refl
  all_of_more (x ∷ xs) = ap (λ l. x ++ l) (all_of_more xs)

  -- Places

  pub placed_less : (base at : ℕ) (slots after : List (List (Event B))) → AreInPlace base slots → IsChangedAt at slots after → IsLeft (slot_at slots at) (slot_at after at) → AreInPlace base after
  placed_less base at slots after h changed left k = go (cases_eq k at)
    where
      go : (k ≡ at) ⊎ (k ≡ at → ⊥) → All (λ e. IsInSlot base k e.time) (slot_at after k)
      go (inl same) = subst (λ i. All (λ e. IsInSlot base i e.time) (slot_at after i)) (sym same)
          (All-back (λ e. IsInSlot base at e.time) left.gone (slot_at after at) (All-permutation (λ e. IsInSlot base at e.time) (slot_at slots at) (left.gone ++ slot_at after at) left.parts (h at)))
      go (inr ne) = subst (All (λ e. IsInSlot base k e.time)) (sym (changed.others k ne)) (h k)

  pub placed_same : (base : ℕ) (slots after : List (List (Event B))) → AreInPlace base slots → ((k : ℕ) → slot_at after k ≡ slot_at slots k) → AreInPlace base after
  placed_same base slots after h same k = subst (All (λ e. IsInSlot base k e.time)) (sym (same k)) (h k)

  pub placed_more : (base at : ℕ) (slots after : List (List (Event B))) (e : Event B) → IsChangedAt at slots after → slot_at after at ≡ slot_at slots at ++ e ∷ [] → IsInSlot base at e.time → AreInPlace base slots → AreInPlace base after
  placed_more base at slots after e changed is placed h k = go (cases_eq k at)
    where
      go : (k ≡ at) ⊎ (k ≡ at → ⊥) → All (λ f. IsInSlot base k f.time) (slot_at after k)
      go (inl same) = subst (λ i. All (λ f. IsInSlot base i f.time) (slot_at after i)) (sym same)
          (subst (All (λ f. IsInSlot base at f.time)) (sym is) (All-push (λ f. IsInSlot base at f.time) (slot_at slots at) e (h at) placed))
      go (inr ne) = subst (All (λ f. IsInSlot base k f.time)) (sym (changed.others k ne)) (h k)

  pub placed_none : (base : ℕ) (slots : List (List (Event B))) → all_of slots ≡ [] → AreInPlace base slots
  placed_none base slots none k = subst (All (λ e. IsInSlot base k e.time)) (sym (slot_none slots k none)) (All-nil (λ e. IsInSlot base k e.time))

  -- where the wheel comes to a time and its slot is taken out
  pub placed_dealt : (base time at : ℕ) (slots after : List (List (Event B))) → base ≤ time → at ≡ slot_of 5 base time → AreInPlace base slots → All (λ e. time ≤ e.time) (all_of slots)
      → IsChangedAt at slots after → slot_at after at ≡ [] → AreInPlace time after
  placed_dealt base time at slots after l is h late changed none k = go (cases_eq k at)
    where
      moved : (k ≡ at → ⊥) → (e : Event B) → IsInSlot base k e.time → time ≤ e.time → IsInSlot time k e.time
      moved ne e placed m = record {
        from = m;
        within = placed.within;
        slot = slot_kept 5 base time e.time l m (λ same. ne (sym placed.slot ∙ same ∙ sym is)) ∙ placed.slot;
      }

      go : (k ≡ at) ⊎ (k ≡ at → ⊥) → All (λ e. IsInSlot time k e.time) (slot_at after k)
      go (inl same) = subst (All (λ e. IsInSlot time k e.time)) (sym (ap (slot_at after) same ∙ none)) (All-nil (λ e. IsInSlot time k e.time))
      go (inr ne) = subst (All (λ e. IsInSlot time k e.time)) (sym (changed.others k ne)) (λ j d m. moved ne (get_or (slot_at slots k) j d) (h k j d m) (slot_from_all (λ e. time ≤ e.time) slots k late j d m))

  -- Times

  pub others_later : (base time at : ℕ) (slots : List (List (Event B))) → at ≡ slot_of 5 base time → AreInPlace base slots → All (λ e. time ≤ e.time) (all_of slots) → (k : ℕ) → k ≢ at → All (λ e. time < e.time) (slot_at slots k)
  others_later base time at slots is h late k ne j d m = go (get_or (slot_at slots k) j d) (h k j d m) (slot_from_all (λ e. time ≤ e.time) slots k late j d m)
    where
      go : (e : Event B) → IsInSlot base k e.time → time ≤ e.time → time < e.time
      go e placed l = by_order (cases_lt time e.time)
        where
          by_order : (time < e.time) ⊎ (e.time ≤ time) → time < e.time
          by_order (inl m) = m
          by_order (inr m) = let same : e.time ≡ time = omega arith in absurd (ne (sym placed.slot ∙ ap (slot_of 5 base) same ∙ sym is))

  pub all_later_than : (at time : ℕ) (slots : List (List (Event B))) → All (λ e. time < e.time) (slot_at slots at) → ((k : ℕ) → k ≢ at → All (λ e. time < e.time) (slot_at slots k)) → All (λ e. time < e.time) (all_of slots)
  all_later_than at time slots here others = all_from_slots (λ e. time < e.time) slots (λ k. go k (cases_eq k at))
    where
      go : (k : ℕ) → (k ≡ at) ⊎ (k ≡ at → ⊥) → All (λ e. time < e.time) (slot_at slots k)
      go k (inl same) = subst (λ i. All (λ e. time < e.time) (slot_at slots i)) (sym same) here
      go k (inr ne) = others k ne

  pub later_after : (at time : ℕ) (slots after : List (List (Event B))) → IsChangedAt at slots after → ((k : ℕ) → k ≢ at → All (λ e. time < e.time) (slot_at slots k)) → (k : ℕ) → k ≢ at → All (λ e. time < e.time) (slot_at after k)
  later_after at time slots after changed others k ne = subst (All (λ e. time < e.time)) (sym (changed.others k ne)) (others k ne)

  pub none_with_slot : (base time : ℕ) (slots : List (List (Event B))) → ((base ≤ time) × (time < end_of_time) → ⊥) → AreInPlace base slots → All (λ e. time ≤ e.time) (all_of slots) → All (λ e. time < e.time) (all_of slots)
  none_with_slot base time slots out h late = all_from_slots (λ e. time < e.time) slots (λ k j d m. go k (get_or (slot_at slots k) j d) (h k j d m) (slot_from_all (λ e. time ≤ e.time) slots k late j d m))
    where
      go : (k : ℕ) (e : Event B) → IsInSlot base k e.time → time ≤ e.time → time < e.time
      go k e placed l = by_order (cases_lt time e.time)
        where
          by_order : (time < e.time) ⊎ (e.time ≤ time) → time < e.time
          by_order (inl m) = m
          by_order (inr m) = let same : e.time ≡ time = omega arith in absurd (out (subst (λ t. base ≤ t) same placed.from, subst (λ t. t < end_of_time) same placed.within))

  -- the least time of the first slot is the least of all
  pub least_of_first : (base t : ℕ) (slots : List (List (Event B))) → AreInPlace base slots → IsLeastOfFirst slots t → IsLeastOr never (all_of slots) t
  least_of_first base t slots h first = record { found = first.least.found; least = go first.least.found first.least.least; value = first.least.value; within = first.least.within }
    where
      not_before : (s k : ℕ) (e : Event B) → first.at < k → IsInSlot base k e.time → All (λ f. s ≤ f.time) (slot_at slots first.at) → (All (λ f. s < f.time) (slot_at slots first.at) → ⊥) → s ≤ e.time
      not_before s k e m placed low some = by_order (cases_lt e.time s)
        where
          earlier : e.time < s → (f : Event B) → IsInSlot base first.at f.time → s ≤ f.time → s < f.time
          earlier l f also n = absurd (let up = slot_rises 5 base e.time f.time placed.from (omega arith) in omega (arith, up, placed.slot, also.slot, m))

          by_order : (e.time < s) ⊎ (s ≤ e.time) → s ≤ e.time
          by_order (inl l) = absurd (some (λ j d n. earlier l (get_or (slot_at slots first.at) j d) (h first.at j d n) (low j d n)))
          by_order (inr l) = l

      by_place : (s k : ℕ) → (k ≡ first.at) ⊎ ((k < first.at) ⊎ (first.at < k)) → All (λ f. s ≤ f.time) (slot_at slots first.at) → (All (λ f. s < f.time) (slot_at slots first.at) → ⊥) → All (λ f. s ≤ f.time) (slot_at slots k)
      by_place s k (inl same) low some = subst (λ i. All (λ f. s ≤ f.time) (slot_at slots i)) (sym same) low
      by_place s k (inr (inl l)) low some = subst (All (λ f. s ≤ f.time)) (sym (first.before k l)) (All-nil (λ f. s ≤ f.time))
      by_place s k (inr (inr l)) low some = λ j d m. not_before s k (get_or (slot_at slots k) j d) l (h k j d m) low some

      go : (found : Option ℕ) → IsLeastTime (slot_at slots first.at) found → IsLeastTime (all_of slots) found
      go None none = first.none none
      go (Some s) least = (
        all_from_slots (λ f. s ≤ f.time) slots (λ k. by_place s k (cases_order k first.at) least.0 least.1),
        λ all. least.1 (slot_from_all (λ f. s < f.time) slots first.at all),
      )

  -- Moves with others beside

  pub put_first : (xs us ys : List (Event B)) (e : Event B) → IsPermutation (xs ++ e ∷ []) us → IsPermutation ((xs ++ ys) ++ e ∷ []) (us ++ ys)
  put_first xs us ys e h =
      subst (λ w. IsPermutation w (us ++ ys)) (sym (append_assoc xs ys (e ∷ [])))
      (IsPermutation-trans (xs ++ (ys ++ e ∷ [])) (xs ++ (e ∷ [] ++ ys)) (us ++ ys) (IsPermutation-append_right xs (ys ++ e ∷ []) (e ∷ [] ++ ys) (IsPermutation-append_comm ys (e ∷ [])))
      (subst (λ w. IsPermutation w (us ++ ys)) (append_assoc xs (e ∷ []) ys) (IsPermutation-append_left ys (xs ++ e ∷ []) us h)))

  -- what is gone of the first of two lists, after a move within both
  pub gone_first : (before xs us ys gone : List (Event B)) → IsPermutation before (xs ++ ys) → IsPermutation xs (gone ++ us) → IsPermutation before (gone ++ (us ++ ys))
  gone_first before xs us ys gone same h =
      IsPermutation-trans before (xs ++ ys) (gone ++ (us ++ ys)) same (subst (IsPermutation (xs ++ ys)) (append_assoc gone us ys) (IsPermutation-append_left ys xs (gone ++ us) h))

  -- what was taken out of a slot
  pub dealt_whole : (at : ℕ) (slots mid : List (List (Event B))) (events others : List (Event B)) → IsChangedAt at slots mid → events ≡ slot_at slots at → slot_at mid at ≡ []
      → IsPermutation (all_of slots ++ others) (events ++ (all_of mid ++ others))
  dealt_whole at slots mid events others changed is none =
      gone_first (all_of slots ++ others) (all_of slots) (all_of mid) others events (IsPermutation-refl (all_of slots ++ others))
      (gone_of_all at slots mid events changed (subst (λ w. IsPermutation (slot_at slots at) (events ++ w)) (sym none)
      (subst (IsPermutation (slot_at slots at)) (sym (append-nil events)) (subst (λ w. IsPermutation (slot_at slots at) w) (sym is) (IsPermutation-refl (slot_at slots at))))))

  pub dealt_all : (whole events mid after : List (Event B)) → IsPermutation whole (events ++ mid) → IsPermutation (mid ++ events) after → IsPermutation whole after
  dealt_all whole events mid after h k =
      IsPermutation-trans whole (events ++ mid) after h (IsPermutation-trans (events ++ mid) (mid ++ events) after (IsPermutation-append_comm events mid) k)

  pub dealt_some : (n : ℕ) (whole events mid after : List (Event B)) → IsPermutation whole (events ++ mid) → IsPermutation (mid ++ take n events) after → IsLeft whole after
  dealt_some n whole events mid after h k =
      let front = take n events in
      let back = drop n events in
      let turned : IsPermutation (events ++ mid) (back ++ (front ++ mid)) =
      subst (λ w. IsPermutation (w ++ mid) (back ++ (front ++ mid))) (take-append-drop n events)
      (subst (IsPermutation ((front ++ back) ++ mid)) (append_assoc back front mid) (IsPermutation-append_left mid (front ++ back) (back ++ front) (IsPermutation-append_comm front back))) in
      record {
        gone = back;
        parts = IsPermutation-trans whole (events ++ mid) (back ++ after) h
            (IsPermutation-trans (events ++ mid) (back ++ (front ++ mid)) (back ++ after) turned
            (IsPermutation-append_right back (front ++ mid) after (IsPermutation-trans (front ++ mid) (mid ++ front) after (IsPermutation-append_comm front mid) k)));
      }

  -- what is not earlier than the whole is not earlier than parts of it
  pub late_of_slots : (P : Event B → Type 0) (whole xs ys : List (Event B)) → IsPermutation whole (xs ++ ys) → All P whole → All P xs
  late_of_slots P whole xs ys same late = All-front P xs ys (All-permutation P whole (xs ++ ys) same late)

  pub late_of_others : (P : Event B → Type 0) (whole xs ys : List (Event B)) → IsPermutation whole (xs ++ ys) → All P whole → All P ys
  late_of_others P whole xs ys same late = All-back P xs ys (All-permutation P whole (xs ++ ys) same late)

  -- one is taken of a slot

  pub left_of_take : (slots after : List (List (Event B))) (at : ℕ) (next : Option (Event B)) → IfSome next (λ e. IsPermutation (slot_at slots at) (e ∷ slot_at after at)) → IfNone next (after ≡ slots) → IsLeft (slot_at slots at) (slot_at after at)
  left_of_take slots after at None taken same = record { gone = []; parts = subst (λ w. IsPermutation (slot_at slots at) (slot_at w at)) (sym same) (IsPermutation-refl (slot_at slots at)) }
  left_of_take slots after at (Some e) taken same = record { gone = e ∷ []; parts = taken }

  pub taken_of_slots : (whole others : List (Event B)) (slots after : List (List (Event B))) (at : ℕ) (next : Option (Event B)) → IsPermutation whole (all_of slots ++ others) → IsChangedAt at slots after
      → IfSome next (λ e. IsPermutation (slot_at slots at) (e ∷ slot_at after at)) → IfSome next (λ e. IsPermutation whole (e ∷ (all_of after ++ others)))
  taken_of_slots whole others slots after at None same changed taken = tt
  taken_of_slots whole others slots after at (Some e) same changed taken = gone_first whole (all_of slots) (all_of after) others (e ∷ []) same (gone_of_all at slots after (e ∷ []) changed taken)

  pub none_of_slots : (at time : ℕ) (slots after : List (List (Event B))) (next : Option (Event B)) → IfNone next (All (λ e. time < e.time) (slot_at slots at)) → IfNone next (after ≡ slots)
      → ((k : ℕ) → k ≢ at → All (λ e. time < e.time) (slot_at slots k)) → IfNone next (All (λ e. time < e.time) (all_of after))
  none_of_slots at time slots after None none same others = subst (λ w. All (λ e. time < e.time) (all_of w)) (sym same) (all_later_than at time slots none others)
  none_of_slots at time slots after (Some e) none same others = tt

  -- all of a time are taken of a slot

  pub moved_from_slots : (t : ℕ) (whole others taken all : List (Event B)) (slots after : List (List (Event B))) (at : ℕ) → IsPermutation whole (all_of slots ++ others) → IsChangedAt at slots after
      → ((k : ℕ) → k ≢ at → All (λ e. t < e.time) (slot_at slots k)) → HasMoved t (slot_at slots at) (slot_at after at) taken all → HasMovedFromSlots t whole after others taken all
  moved_from_slots t whole others taken all slots after at same changed only h = record {
    moved = h.moved;
    behind = h.behind;
    parts = gone_first whole (all_of slots) (all_of after) others h.moved same (gone_of_all at slots after h.moved changed h.parts);
    of_time = h.of_time;
    later = all_later_than at t after h.later (later_after at t slots after changed only);
  }

  pub left_from_slots : (whole others : List (Event B)) (slots after : List (List (Event B))) (at : ℕ) → IsPermutation whole (all_of slots ++ others) → IsChangedAt at slots after → IsLeft (slot_at slots at) (slot_at after at) → IsLeft whole (all_of after ++ others)
  left_from_slots whole others slots after at same changed h = record { gone = h.gone; parts = gone_first whole (all_of slots) (all_of after) others h.gone same (gone_of_all at slots after h.gone changed h.parts) }

  pub none_moved : (t : ℕ) (whole others taken : List (Event B)) (slots : List (List (Event B))) → IsPermutation whole (all_of slots ++ others) → All (λ e. t < e.time) (all_of slots) → HasMovedFromSlots t whole slots others taken taken
  none_moved t whole others taken slots same later = record { moved = []; behind = sym (append-nil taken); parts = same; of_time = All-nil (λ e. e.time ≡ t); later = later }

  -- then the others

  parts_both : (whole front xs others gone left : List (Event B)) → IsPermutation whole (front ++ (xs ++ others)) → IsPermutation others (gone ++ left) → IsPermutation whole ((front ++ gone) ++ (xs ++ left))
  parts_both whole front xs others gone left h k =
      subst (IsPermutation whole) (sym (append_assoc front gone (xs ++ left)))
      (IsPermutation-trans whole (front ++ (xs ++ others)) (front ++ (gone ++ (xs ++ left))) h
      (IsPermutation-append_right front (xs ++ others) (gone ++ (xs ++ left))
      (IsPermutation-trans (xs ++ others) (xs ++ (gone ++ left)) (gone ++ (xs ++ left)) (IsPermutation-append_right xs others (gone ++ left) k)
      (subst (λ w. IsPermutation w (gone ++ (xs ++ left))) (append_assoc xs gone left)
      (subst (IsPermutation ((xs ++ gone) ++ left)) (append_assoc gone xs left) (IsPermutation-append_left left (xs ++ gone) (gone ++ xs) (IsPermutation-append_comm xs gone)))))))

  pub moved_both : (t : ℕ) (whole others left taken mid all : List (Event B)) (slots : List (List (Event B))) → HasMovedFromSlots t whole slots others taken mid → HasMoved t others left mid all → HasMoved t whole (all_of slots ++ left) taken all
  moved_both t whole others left taken mid all slots h k = record {
    moved = h.moved ++ k.moved;
    behind = k.behind ∙ ap (λ l. l ++ k.moved) h.behind ∙ append_assoc taken h.moved k.moved;
    parts = parts_both whole h.moved (all_of slots) others k.moved left h.parts k.parts;
    of_time = All-append (λ e. e.time ≡ t) h.moved k.moved h.of_time k.of_time;
    later = All-append (λ e. t < e.time) (all_of slots) left h.later k.later;
  }

  pub left_both : (whole front xs others left : List (Event B)) → IsPermutation whole (front ++ (xs ++ others)) → IsLeft others left → IsLeft whole (xs ++ left)
  left_both whole front xs others left h k = record { gone = front ++ k.gone; parts = parts_both whole front xs others k.gone left h k.parts }

  pub at_none : (next : Option (Event B)) (P : Type 0) → is_some next ≡ false → IfNone next P → P
  at_none None P off h = h
  at_none (Some e) P off h = absurd (true≢false off)

  pub taken_of_others : (whole xs others left : List (Event B)) (next : Option (Event B)) → IsPermutation whole (xs ++ others) → IfSome next (λ e. IsPermutation others (e ∷ left)) → IfSome next (λ e. IsPermutation whole (e ∷ (xs ++ left)))
  taken_of_others whole xs others left None same taken = tt
  taken_of_others whole xs others left (Some e) same taken = parts_both whole [] xs others (e ∷ []) left same taken

  pub none_of_others : (P : Event B → Type 0) (whole xs others : List (Event B)) (next : Option (Event B)) → IsPermutation whole (xs ++ others) → All P xs → IfNone next (All P others) → IfNone next (All P whole)
  none_of_others P whole xs others None same h k = All-permutation P (xs ++ others) whole (IsPermutation-sym whole (xs ++ others) same) (All-append P xs others h k)
  none_of_others P whole xs others (Some e) same h k = tt

  pub same_of_others : (whole xs others left : List (Event B)) (next : Option (Event B)) → IsPermutation whole (xs ++ others) → IfNone next (IsPermutation others left) → IfNone next (IsPermutation whole (xs ++ left))
  same_of_others whole xs others left None same h = IsPermutation-trans whole (xs ++ others) (xs ++ left) same (IsPermutation-append_right xs others left h)
  same_of_others whole xs others left (Some e) same h = tt

pub some_at : {A : Type 0} (P : A → Type 0) (found : Option A) (a : A) → found ≡ Some a → IfSome found P → P a
some_at P found a is h = subst (λ o. IfSome o P) is h

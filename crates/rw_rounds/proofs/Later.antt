-- What a process gives out is later than what it takes up and than what it has pending.
use Rattle.std.proofs.Common.{◌≡◌, ℕ, zero, suc, ◌<◌, ◌≤◌, Bool, true, false, cond, List, [], ◌∷◌, ◌++◌, refl, sym, ap, ◌∙◌, subst, arith, inl, inr, Option, Some, None}
use Rattle.std.specs.Prelude.{◌⊎◌, not, ◌&&◌}
use Rattle.std.specs.List.{All}
use Rattle.std.specs.declared.cmp.Ordering.{Ordering}
use Rattle.std.specs.Ordering.{is_eq, is_gt}
use Rattle.std.proofs.lemmas.List.Elements.{All-head, All-tail}
use Rattle.rw_vt.specs.declared.event.Event.{Event}
use Rattle.rw_vt.specs.declared.event.Letter.{Letter}
use Rattle.rw_vt.specs.declared.model.Model.{Ghosts}
use Rattle.rw_vt.specs.Order.{event_cmp, AtMost, Has, Each, IsAscending, insert_in_order, has, without}
use Rattle.rw_vt.specs.Letters.{letters_of}
use Rattle.rw_vt.specs.Valid.{IsSentBy}
use Rattle.rw_vt.specs.System.{Rules, state_after, rules}
use Rattle.rw_vt.proofs.EventOrder.{events_exact, time_at_most}
use Rattle.rw_vt.proofs.Sorting.{IsExactOrder, at_most_itself, at_most_other, Has-cons, Has-head, Has-tail, Has-right}
use Rattle.rw_vt.proofs.Bags.{Each-tail, Each-insert, Each-without, Has-test, IsAscending-back}
use Rattle.rw_vt.proofs.Laws.{Laws}
use Rattle.rw_lp.specs.declared.held.Held.{Held}
use Rattle.rw_lp.specs.declared.answer.StepFault.TheVariants.{Straggler, StillDone}
use Rattle.rw_lp.specs.HeldMessages.{holds, held_without_first, unheld_sends, held_with, held_without}
use Rattle.rw_lp.specs.Process.{ProcessState, done, Turn, Turned, Stays, with_front, split_last, is_less_than_last, execute_event, execute_least, execute_next, sends_of_last, undo_last, undo_last_lazily, annihilate, deliver_message, deliver_anti, deliver}
use Rattle.rw_lp.specs.declared.way.Way.{Way}
use Rattle.rw_lp.specs.declared.way.Way.TheVariants.{Aggressive, Lazy}
use Rattle.rw_lp.specs.Arrival.{undo_by, with_out, and_undo, undo_times, is_barred, Accepts, ArrivedBy}
use Rattle.rw_lp.specs.Sound.{Stands, IsHeldFor, SoundAt, Keeps}
use Rattle.rw_lp.proofs.Cited.{with_bags, IsSplit, split_is, open_accepts}
use Rattle.rw_rounds.specs.Bags.{Every}
use Rattle.rw_rounds.proofs.Cited.{StartsIn, every_append, every_back, every_front, governs, kept_of, undoings_keep}

every_of_all : {X : Type 0} (P Q : X → Type 0) → ((x : X) → P x → Q x) → (xs : List X) → All P xs → Every Q xs
every_of_all P Q f [] all = tt
every_of_all P Q f (x ∷ xs) all = (f x (All-head P x xs all), every_of_all P Q f xs (All-tail P x xs all))

every_of_each : {E : Type 0} {cmp : E → E → Ordering} (o : IsExactOrder cmp) (P : E → Type 0) (xs : List E) → Each cmp P xs → Every P xs
every_of_each o P [] all = tt
every_of_each o P (x ∷ xs) all = (all x (Has-head o x xs), every_of_each o P xs (λ e k. all e (Has-tail o e x xs k)))

-- what stands in a list that ascends is at most its last
at_most_last : {E : Type 0} {cmp : E → E → Ordering} (o : IsExactOrder cmp) (front : List E) (u e : E) → IsAscending cmp (front ++ u ∷ []) → Has cmp (front ++ u ∷ []) e → AtMost cmp e u
at_most_last {cmp = cmp} o [] u e up k = go (Has-cons o e u [] k)
  where
    go : (e ≡ u) ⊎ Has cmp [] e → AtMost cmp e u
    go (inl is) = subst (λ a. AtMost cmp a u) (sym is) (at_most_itself o u)
    go (inr h) = absurd (omega arith)
at_most_last {cmp = cmp} o (x ∷ xs) u e up k = go (λ h. at_most_last o xs u e up.1 h) (Has-cons o e x (xs ++ u ∷ []) k)
  where
    go : (Has cmp (xs ++ u ∷ []) e → AtMost cmp e u) → (e ≡ x) ⊎ Has cmp (xs ++ u ∷ []) e → AtMost cmp e u
    go rest (inl is) = subst (λ a. AtMost cmp a u) (sym is) (up.0 u (Has-right o u xs (u ∷ []) (Has-head o u [])))
    go rest (inr h) = rest h

-- the last of a list is that of its end
split_behind : {A : Type 0} (xs ps : List A) (r : List A × A) → split_last ps ≡ Some r → split_last (xs ++ ps) ≡ Some (xs ++ r.0, r.1)
split_behind [] ps r h = h
split_behind (x ∷ xs) ps r h = ap (λ o. Some (with_front x o)) (split_behind xs ps r h)

-- letters and held messages later than t
module _ {B : Type 0} (t : ℕ) where
  letters_later : (b : Bool) (es : List (Event B)) → Every (λ e. t < e.time) es → Every (λ l. t < l.event.time) (letters_of b es)
  letters_later b [] all = tt
  letters_later b (e ∷ es) all = (all.0, letters_later b es all.1)

  module _ (cmp : Event B → Event B → Ordering) where
    with_later : (e : Event B) (hs : List (Held B)) → Every (λ h. t < h.message.time) hs → Every (λ m. t < m.time) (held_with cmp e hs)
    with_later e [] all = tt
    with_later e (h ∷ hs) all = go (is_eq (cmp h.undone e)) (with_later e hs all.1)
      where
        go : (b : Bool) → Every (λ m. t < m.time) (held_with cmp e hs) → Every (λ m. t < m.time) (cond b (h.message ∷ held_with cmp e hs) (held_with cmp e hs))
        go true rest = (all.0, rest)
        go false rest = rest

    without_later : (m : Event B) (hs : List (Held B)) → Every (λ h. t < h.message.time) hs → Every (λ h. t < h.message.time) (held_without_first cmp m hs)
    without_later m [] all = tt
    without_later m (h ∷ hs) all = go (is_eq (cmp m h.message)) (without_later m hs all.1)
      where
        go : (b : Bool) → Every (λ h. t < h.message.time) (held_without_first cmp m hs) → Every (λ h. t < h.message.time) (cond b hs (h ∷ held_without_first cmp m hs))
        go true rest = all.1
        go false rest = (all.0, rest)

    abbrev Both : List (Event B) × List (Held B) → Type 0
    Both u = Every (λ m. t < m.time) u.0 × Every (λ h. t < h.message.time) u.1

    unheld_later : (ms : List (Event B)) (hs : List (Held B)) → Every (λ m. t < m.time) ms → Every (λ h. t < h.message.time) hs → Every (λ m. t < m.time) (unheld_sends cmp ms hs).0 × Every (λ h. t < h.message.time) (unheld_sends cmp ms hs).1
    unheld_later [] hs sends held = (tt, held)
    unheld_later (m ∷ ms) hs sends held = go (holds cmp m hs) (unheld_later ms (held_without_first cmp m hs) sends.1 (without_later m hs held)) (unheld_later ms hs sends.1 held)
      where
        go : (b : Bool) → Both (unheld_sends cmp ms (held_without_first cmp m hs)) → Both (unheld_sends cmp ms hs) → Both (cond b (unheld_sends cmp ms (held_without_first cmp m hs)) (m ∷ (unheld_sends cmp ms hs).0, (unheld_sends cmp ms hs).1))
        go true one other = one
        go false one other = ((sends.0, other.0), other.1)

-- nothing is pending or owed before t
pub record IsLate {S B : Type 0} (cmp : Event B → Event B → Ordering) (t : ℕ) (x : ProcessState S B) : Type 0 where
  pub pending : Each cmp (λ e. t ≤ e.time) x.pending
  pub debts : Each cmp (λ e. t ≤ e.time) x.debts

-- it stays so, and what is given out is later than t
abbrev pub StaysLate : {S B : Type 0} → (Event B → Event B → Ordering) → ℕ → Turn S B → Type 0
StaysLate cmp t (Stays fault) = Unit {0}
StaysLate cmp t (Turned z out) = IsLate cmp t z × Every (λ l. t < l.event.time) out

module _ {M S B U : Type 0} {model : Ghosts M S B U} {order : B → B → Ordering} (laws : Laws model order) (m : M) (g t p : ℕ) where
  abbrev y : Rules S B
  y = rules model order m

  exact : IsExactOrder (event_cmp order)
  exact = events_exact (record { total = laws.total; same = laws.same })

  well_after : (s : S) (es : List (Event B)) → model.IsWellFormed m p s → Every (Stands (rules model order m) p) es → model.IsWellFormed m p (state_after (model.step m p) s es)
  well_after s [] well all = well
  well_after s (e ∷ es) well all = well_after (model.step m p s e).0 es (laws.keeps m p s e well all.0.valid all.0.here) all.1

  sends_later : (s : S) (e : Event B) → model.IsWellFormed m p s → Stands (rules model order m) p e → t ≤ e.time → Every (λ f. t < f.time) (model.step m p s e).1
  sends_later s e well stands from =
      every_of_all (λ f. IsSentBy p e f × (model.is_valid m f ≡ true)) (λ f. t < f.time) (λ f k. (let late : e.time < f.time = k.0.later in omega arith)) (model.step m p s e).1 (laws.future m p s e well stands.valid stands.here)

  held_later : (pending : List (Event B)) (hs : List (Held B)) → Each (event_cmp order) (λ e. t ≤ e.time) pending → All (λ h. IsHeldFor (rules model order m) pending h) hs → Every (λ h. t < h.message.time) hs
  held_later pending hs late all =
      every_of_all (λ h. IsHeldFor (rules model order m) pending h) (λ h. t < h.message.time) (λ h k. (let from : t ≤ h.undone.time = late h.undone k.there in let later : h.undone.time < h.message.time = k.later in omega arith)) hs all

  module _ (x : ProcessState S B) (starts : StartsIn model m p x.start) (sound : SoundAt (rules model order m) g p x) (late : IsLate (event_cmp order) t x) where
    all_held : Every (λ h. t < h.message.time) x.held
    all_held = held_later x.pending x.held late.pending sound.held

    committed_stand : Every (Stands (rules model order m) p) x.committed
    committed_stand = every_of_each exact (Stands (rules model order m) p) x.committed sound.committed_stand

    processed_stand : Every (Stands (rules model order m) p) x.processed
    processed_stand = every_of_each exact (Stands (rules model order m) p) x.processed sound.processed_stand

    well_now : model.IsWellFormed m p x.state
    well_now =
        subst (model.IsWellFormed m p) (sym sound.state)
        (well_after x.start (done x) starts.1 (every_append (Stands (rules model order m) p) x.committed x.processed committed_stand processed_stand))

    execution_late : StaysLate (event_cmp order) t (execute_next (rules model order m) p x)
    execution_late = next x.pending refl
      where
        after : (e : Event B) (rest : List (Event B)) → x.pending ≡ e ∷ rest → (b : Bool) → StaysLate (event_cmp order) t (cond b (Stays Straggler) (execute_event (rules model order m) p x e rest (unheld_sends (event_cmp order) (model.step m p x.state e).1 x.held)))
        after e rest q true = tt
        after e rest q false =
            let there : Has (event_cmp order) x.pending e = subst (λ es. Has (event_cmp order) es e) (sym q) (Has-head exact e rest) in
            let sends = sends_later x.state e well_now (sound.pending_stand e there) (late.pending e there) in
            let both = unheld_later t (event_cmp order) (model.step m p x.state e).1 x.held sends all_held in (
              record { pending = Each-tail exact (λ a. t ≤ a.time) e rest (subst (Each (event_cmp order) (λ a. t ≤ a.time)) q late.pending); debts = late.debts },
              every_append (λ l. t < l.event.time) (letters_of false (unheld_sends (event_cmp order) (model.step m p x.state e).1 x.held).0) (letters_of true (held_with (event_cmp order) e (unheld_sends (event_cmp order) (model.step m p x.state e).1 x.held).1))
                  (letters_later t false (unheld_sends (event_cmp order) (model.step m p x.state e).1 x.held).0 both.0)
                  (letters_later t true (held_with (event_cmp order) e (unheld_sends (event_cmp order) (model.step m p x.state e).1 x.held).1) (with_later t (event_cmp order) e (unheld_sends (event_cmp order) (model.step m p x.state e).1 x.held).1 both.1)),
            )

        next : (es : List (Event B)) → x.pending ≡ es → StaysLate (event_cmp order) t (execute_least (rules model order m) p x es)
        next [] q = tt
        next (e ∷ rest) q = after e rest q (is_less_than_last (event_cmp order) e (split_last (done x)))

    -- the last processed event, where it is not before t
    module _ (last_from : (r : List (Event B) × Event B) → split_last x.processed ≡ Some r → t ≤ r.1.time) where
      undone_sends : (r : List (Event B) × Event B) → x.processed ≡ r.0 ++ r.1 ∷ [] → t ≤ r.1.time → Every (λ f. t < f.time) (sends_of_last (rules model order m) p x r.0 r.1)
      undone_sends r is from =
          let all = subst (Every (Stands (rules model order m) p)) is processed_stand in
          let front = every_append (Stands (rules model order m) p) x.committed r.0 committed_stand (every_front (Stands (rules model order m) p) r.0 (r.1 ∷ []) all) in
          sends_later (state_after (model.step m p) x.start (x.committed ++ r.0)) r.1 (well_after x.start (x.committed ++ r.0) starts.1 front) (every_back (Stands (rules model order m) p) r.0 (r.1 ∷ []) all).0 from

      put_back : (e : Event B) → t ≤ e.time → Each (event_cmp order) (λ a. t ≤ a.time) (insert_in_order (event_cmp order) e x.pending)
      put_back e from = Each-insert exact (λ a. t ≤ a.time) e x.pending from late.pending

      undoing_late : (way : Way) → StaysLate (event_cmp order) t (undo_by way (rules model order m) p x)
      undoing_late Aggressive = go (split_last x.processed) refl (split_is x.processed)
        where
          go : (o : Option (List (Event B) × Event B)) → split_last x.processed ≡ o → IsSplit x.processed o → StaysLate (event_cmp order) t (undo_last (rules model order m) p x o)
          go None at is = tt
          go (Some r) at is = (record { pending = put_back r.1 (last_from r at); debts = late.debts }, letters_later t true (sends_of_last (rules model order m) p x r.0 r.1) (undone_sends r is (last_from r at)))
      undoing_late Lazy = go (split_last x.processed) refl
        where
          go : (o : Option (List (Event B) × Event B)) → split_last x.processed ≡ o → StaysLate (event_cmp order) t (undo_last_lazily (rules model order m) p x o)
          go None at = tt
          go (Some r) at = (record { pending = put_back r.1 (last_from r at); debts = late.debts }, tt)

    -- where what is next is a straggler, the last processed event is not before it
    straggler_from : execute_next (rules model order m) p x ≡ Stays Straggler → (r : List (Event B) × Event B) → split_last x.processed ≡ Some r → t ≤ r.1.time
    straggler_from h r at = next x.pending refl h
      where
        less : (e : Event B) (rest : List (Event B)) → x.pending ≡ e ∷ rest → is_less_than_last (event_cmp order) e (split_last (done x)) ≡ true → t ≤ r.1.time
        less e rest q k =
            let there : Has (event_cmp order) x.pending e = subst (λ es. Has (event_cmp order) es e) (sym q) (Has-head exact e rest) in
            let greater : is_gt (event_cmp order r.1 e) ≡ true = ap (is_less_than_last (event_cmp order) e) (sym (split_behind x.committed x.processed r at)) ∙ k in
            let upto : e.time ≤ r.1.time = time_at_most order e r.1 (at_most_other exact r.1 e greater) in
            let from : t ≤ e.time = late.pending e there in
            omega arith

        after : (e : Event B) (rest : List (Event B)) → x.pending ≡ e ∷ rest → (b : Bool) → is_less_than_last (event_cmp order) e (split_last (done x)) ≡ b → cond b (Stays Straggler) (execute_event (rules model order m) p x e rest (unheld_sends (event_cmp order) (model.step m p x.state e).1 x.held)) ≡ Stays Straggler → t ≤ r.1.time
        after e rest q true k same = less e rest q k
        after e rest q false k same = cc

        next : (es : List (Event B)) → x.pending ≡ es → execute_least (rules model order m) p x es ≡ Stays Straggler → t ≤ r.1.time
        next [] q same = cc
        next (e ∷ rest) q same = after e rest q (is_less_than_last (event_cmp order) e (split_last (done x))) refl same

    -- a letter from t on
    module _ (l : Letter B) (from : t ≤ l.event.time) where
      delivery_late : StaysLate (event_cmp order) t (deliver (event_cmp order) l x)
      delivery_late = go l.anti
        where
          message : (b : Bool) → StaysLate (event_cmp order) t (cond b (Turned (with_bags x x.pending (without (event_cmp order) l.event x.debts) x.held) []) (Turned (with_bags x (insert_in_order (event_cmp order) l.event x.pending) x.debts x.held) []))
          message true = (record { pending = late.pending; debts = Each-without exact (λ a. t ≤ a.time) l.event x.debts late.debts }, tt)
          message false = (record { pending = Each-insert exact (λ a. t ≤ a.time) l.event x.pending from late.pending; debts = late.debts }, tt)

          last : (b : Bool) → StaysLate (event_cmp order) t (cond b (Turned (with_bags x (without (event_cmp order) l.event x.pending) x.debts x.held) []) (Turned (with_bags x (without (event_cmp order) l.event x.pending) x.debts (held_without (event_cmp order) l.event x.held)) (letters_of true (held_with (event_cmp order) l.event x.held))))
          last true = (record { pending = Each-without exact (λ a. t ≤ a.time) l.event x.pending late.pending; debts = late.debts }, tt)
          last false = (record { pending = Each-without exact (λ a. t ≤ a.time) l.event x.pending late.pending; debts = late.debts }, letters_later t true (held_with (event_cmp order) l.event x.held) (with_later t (event_cmp order) l.event x.held all_held))

          anti : (b c : Bool) → StaysLate (event_cmp order) t (cond b (annihilate (event_cmp order) l.event x) (cond c (Stays StillDone) (Turned (with_bags x x.pending (insert_in_order (event_cmp order) l.event x.debts) x.held) [])))
          anti true c = last (has (event_cmp order) l.event (without (event_cmp order) l.event x.pending))
          anti false true = tt
          anti false false = (record { pending = late.pending; debts = Each-insert exact (λ a. t ≤ a.time) l.event x.debts from late.debts }, tt)

          go : (b : Bool) → StaysLate (event_cmp order) t (cond b (deliver_anti (event_cmp order) l.event x) (deliver_message (event_cmp order) l.event x))
          go true = anti (has (event_cmp order) l.event x.pending) (has (event_cmp order) l.event x.processed)
          go false = message (has (event_cmp order) l.event x.debts)

      -- where it cannot be accepted, the last processed event is not before it
      refused_from : (Accepts (event_cmp order) l x → ⊥) → (r : List (Event B) × Event B) → split_last x.processed ≡ Some r → t ≤ r.1.time
      refused_from never r at = open_or_barred (is_barred (event_cmp order) l x) refl
        where
          up : IsAscending (event_cmp order) x.processed
          up = IsAscending-back exact x.committed x.processed sound.order

          is : x.processed ≡ r.0 ++ r.1 ∷ []
          is = subst (IsSplit x.processed) at (split_is x.processed)

          not_before : AtMost (event_cmp order) l.event r.1 → t ≤ r.1.time
          not_before k = let upto : l.event.time ≤ r.1.time = time_at_most order l.event r.1 k in omega arith

          both : (b c : Bool) → (b && c) ≡ true → b ≡ true
          both true c k = refl
          both false c k = k

          barred : (b : Bool) → cond b (has (event_cmp order) l.event x.processed && not (has (event_cmp order) l.event x.pending)) (is_less_than_last (event_cmp order) l.event (split_last x.processed)) ≡ true → t ≤ r.1.time
          barred true k =
              let there : Has (event_cmp order) x.processed l.event = Has-test exact l.event x.processed (both (has (event_cmp order) l.event x.processed) (not (has (event_cmp order) l.event x.pending)) k) in
              not_before (at_most_last exact r.0 r.1 l.event (subst (IsAscending (event_cmp order)) is up) (subst (λ es. Has (event_cmp order) es l.event) is there))
          barred false k =
              let greater : is_gt (event_cmp order r.1 l.event) ≡ true = ap (is_less_than_last (event_cmp order) l.event) (sym at) ∙ k in
              not_before (at_most_other exact r.1 l.event greater)

          open_or_barred : (b : Bool) → is_barred (event_cmp order) l x ≡ b → t ≤ r.1.time
          open_or_barred true k = barred l.anti k
          open_or_barred false k = absurd (never (open_accepts exact l x up k))

  -- the undoings that an arrival needs
  module _ (way : Way) (l : Letter B) (from : t ≤ l.event.time) (x : ProcessState S B) (starts : StartsIn model m p x.start) (sound : SoundAt (rules model order m) g p x) (late : IsLate (event_cmp order) t x) where
    undone : (k : ℕ) → ((j : ℕ) (w : ProcessState S B) (out : List (Letter B)) → j < k → undo_times (undo_by way (rules model order m) p) j x ≡ Turned w out → Accepts (event_cmp order) l w → ⊥) → StaysLate (event_cmp order) t (undo_times (undo_by way (rules model order m) p) k x)
    undone zero fewer = (late, tt)
    undone (suc k) fewer =
        more (undo_times (undo_by way (rules model order m) p) k x) (λ w out. fewer k w out (omega arith))
        (undoings_keep (rules model order m) g p (governs model order m laws g) way k x starts sound)
        (undone k (λ j w out below. fewer j w out (omega arith)))
      where
        more_out : (out : List (Letter B)) → Every (λ l. t < l.event.time) out → (u : Turn S B) → StaysLate (event_cmp order) t u → StaysLate (event_cmp order) t (with_out out u)
        more_out out all (Stays fault) k = tt
        more_out out all (Turned z rest) k = (k.0, every_append (λ l. t < l.event.time) out rest all k.1)

        more : (u : Turn S B) → ((w : ProcessState S B) (out : List (Letter B)) → u ≡ Turned w out → Accepts (event_cmp order) l w → ⊥) → Keeps (rules model order m) g p x [] u → StaysLate (event_cmp order) t u → StaysLate (event_cmp order) t (and_undo (undo_by way (rules model order m) p) u)
        more (Stays fault) never kept k = tt
        more (Turned w out) never kept k =
            let starts_there = subst (StartsIn model m p) (sym kept.change.start) starts in
            more_out out k.1 (undo_by way (rules model order m) p w)
            (undoing_late w starts_there kept.sound k.0 (refused_from w starts_there kept.sound k.0 l from (never w out refl)) way)

    arrival_late : (z : ProcessState S B) (given : List (Letter B)) → ArrivedBy way (rules model order m) p l x z given → IsLate (event_cmp order) t z × Every (λ l. t < l.event.time) given
    arrival_late z given a =
        let first : IsLate (event_cmp order) t a.between × Every (λ l. t < l.event.time) a.unsent = subst (StaysLate (event_cmp order) t) a.undone (undone a.count a.fewest) in
        let kept = kept_of (rules model order m) g p x a.between [] a.unsent (undo_times (undo_by way (rules model order m) p) a.count x) a.undone (undoings_keep (rules model order m) g p (governs model order m laws g) way a.count x starts sound) in
        let last : IsLate (event_cmp order) t z × Every (λ l. t < l.event.time) a.rest =
        subst (StaysLate (event_cmp order) t) a.delivered (delivery_late a.between (subst (StartsIn model m p) (sym kept.change.start) starts) kept.sound first.0 l from) in
        (last.0, subst (Every (λ l. t < l.event.time)) (sym a.all) (every_append (λ l. t < l.event.time) a.unsent a.rest first.1 last.1))

  pub executed_late : (x z : ProcessState S B) (out : List (Letter B)) → StartsIn model m p x.start → SoundAt (rules model order m) g p x → IsLate (event_cmp order) t x → execute_next (rules model order m) p x ≡ Turned z out → IsLate (event_cmp order) t z × Every (λ l. t < l.event.time) out
  executed_late x z out starts sound late is = subst (StaysLate (event_cmp order) t) is (execution_late x starts sound late)

  pub undone_late : (way : Way) (x z : ProcessState S B) (out : List (Letter B)) → StartsIn model m p x.start → SoundAt (rules model order m) g p x → IsLate (event_cmp order) t x → execute_next (rules model order m) p x ≡ Stays Straggler → undo_by way (rules model order m) p x ≡ Turned z out → IsLate (event_cmp order) t z × Every (λ l. t < l.event.time) out
  undone_late way x z out starts sound late straggler is = subst (StaysLate (event_cmp order) t) is (undoing_late x starts sound late (straggler_from x starts sound late straggler) way)

  pub arrived_late : (way : Way) (l : Letter B) (x z : ProcessState S B) (given : List (Letter B)) → t ≤ l.event.time → StartsIn model m p x.start → SoundAt (rules model order m) g p x → IsLate (event_cmp order) t x → ArrivedBy way (rules model order m) p l x z given → IsLate (event_cmp order) t z × Every (λ l. t < l.event.time) given
  arrived_late way l x z given from starts sound late a = arrival_late way l from x starts sound late z given a

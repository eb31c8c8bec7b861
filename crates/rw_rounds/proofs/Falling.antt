-- Why a worker's letters come to an end: no arrival makes the work that is left grow.
use Rattle.std.proofs.Common.{◌≡◌, ℕ, zero, suc, ◌+◌, ◌≤◌, Bool, true, false, cond, List, [], ◌∷◌, ◌++◌, length, length-append, refl, sym, ap, ◌∙◌, subst, arith, append_assoc, append-nil, Option, Some, None}
use Rattle.std.specs.Prelude.{slice_get, slice_set}
use Rattle.std.specs.declared.cmp.Ordering.{Ordering}
use Rattle.std.specs.Ordering.{is_eq}
use Rattle.std.proofs.lemmas.List.{length-map}
use Rattle.rw_vt.specs.declared.event.Event.{Event}
use Rattle.rw_vt.specs.declared.event.Letter.{Letter}
use Rattle.rw_vt.specs.Order.{insert_in_order, has, without}
use Rattle.rw_vt.specs.Letters.{letters_of}
use Rattle.rw_vt.specs.System.{Rules, state_after, sends_of}
use Rattle.rw_vt.proofs.Runs.{outs-append}
use Rattle.rw_lp.specs.declared.held.Held.{Held}
use Rattle.rw_lp.specs.declared.answer.StepFault.TheVariants.{StillDone}
use Rattle.rw_lp.specs.HeldMessages.{held_of, held_with, held_without}
use Rattle.rw_lp.specs.Process.{ProcessState, done, Turn, Turned, Stays, split_last, after_undoing, sends_of_last, undo_last, undo_one, undo_last_lazily, undo_lazily, annihilate, deliver_message, deliver_anti, deliver, execute_next, execute_least, execute_event, after_execution, is_less_than_last}
use Rattle.rw_lp.proofs.Cited.{with_bags, IsSplit, split_is}
use Rattle.rw_lp.specs.Calls.{LogicalProcess}
use Rattle.rw_lp.specs.declared.way.Way.{Way}
use Rattle.rw_lp.specs.declared.way.Way.TheVariants.{Aggressive, Lazy}
use Rattle.rw_lp.specs.Arrival.{undo_by, with_out, and_undo, undo_times, ArrivedBy}
use Rattle.rw_rounds.specs.Working.{size, sizes, dones}

length-letters : {B : Type 0} (b : Bool) (es : List (Event B)) → length (letters_of b es) ≡ length es
length-letters b es = length-map es (λ e. record { event = e; anti = b })

length-held : {B : Type 0} (e : Event B) (ms : List (Event B)) → length (held_of e ms) ≡ length ms
length-held e [] = refl
length-held e (m ∷ ms) = ap suc (length-held e ms)

held_parts : {B : Type 0} (cmp : Event B → Event B → Ordering) (e : Event B) (hs : List (Held B)) → length (held_with cmp e hs) + length (held_without cmp e hs) ≡ length hs
held_parts cmp e [] = refl
held_parts cmp e (h ∷ hs) = go (is_eq (cmp h.undone e)) (held_parts cmp e hs)
  where
    go : (b : Bool) → length (held_with cmp e hs) + length (held_without cmp e hs) ≡ length hs
        → length (cond b (h.message ∷ held_with cmp e hs) (held_with cmp e hs)) + length (cond b (held_without cmp e hs) (h ∷ held_without cmp e hs)) ≡ suc (length hs)
    go true k = omega arith
    go false k = omega arith

module _ {S B : Type 0} (y : Rules S B) (p : ℕ) where
  -- the done events of a process, what they sent, and what is held
  abbrev pub work : ProcessState S B → ℕ
  work x = length (done x) + length (sends_of (y.step p) x.start (done x)) + length x.held

  -- a turn loses what it gives out, and no event is done by it
  abbrev pub Falls : ProcessState S B → Turn S B → Type 0
  Falls x (Stays f) = Unit {0}
  Falls x (Turned z out) = (work z + length out ≤ work x) × (length (done z) ≤ length (done x))

  undo_falls : (x : ProcessState S B) → Falls x (undo_one y p x)
  undo_falls x = go (split_last x.processed) (split_is x.processed)
    where
      go : (o : Option (List (Event B) × Event B)) → IsSplit x.processed o → Falls x (undo_last y p x o)
      go None q = tt
      go (Some r) q =
          let front : List (Event B) = x.committed ++ r.0 in
          let sends : List (Event B) = (y.step p (state_after (y.step p) x.start front) r.1).1 in
          let more : done x ≡ front ++ r.1 ∷ [] = ap (λ l. x.committed ++ l) q ∙ sym (append_assoc x.committed r.0 (r.1 ∷ [])) in
          let d : length (done x) ≡ length front + 1 = ap length more ∙ length-append front (r.1 ∷ []) in
          let o : length (sends_of (y.step p) x.start (done x)) ≡ length (sends_of (y.step p) x.start front) + length sends =
          ap (λ l. length (sends_of (y.step p) x.start l)) more ∙ ap length (outs-append (y.step p) x.start front (r.1 ∷ []) ∙ ap (λ l. sends_of (y.step p) x.start front ++ l) (append-nil sends)) ∙ length-append (sends_of (y.step p) x.start front) sends in
          let ls : length (letters_of true sends) ≡ length sends = length-letters true sends in
          ((omega arith), (omega arith))

  lazily_falls : (x : ProcessState S B) → Falls x (undo_lazily y p x)
  lazily_falls x = go (split_last x.processed) (split_is x.processed)
    where
      go : (o : Option (List (Event B) × Event B)) → IsSplit x.processed o → Falls x (undo_last_lazily y p x o)
      go None q = tt
      go (Some r) q =
          let front : List (Event B) = x.committed ++ r.0 in
          let sends : List (Event B) = (y.step p (state_after (y.step p) x.start front) r.1).1 in
          let more : done x ≡ front ++ r.1 ∷ [] = ap (λ l. x.committed ++ l) q ∙ sym (append_assoc x.committed r.0 (r.1 ∷ [])) in
          let d : length (done x) ≡ length front + 1 = ap length more ∙ length-append front (r.1 ∷ []) in
          let o : length (sends_of (y.step p) x.start (done x)) ≡ length (sends_of (y.step p) x.start front) + length sends =
          ap (λ l. length (sends_of (y.step p) x.start l)) more ∙ ap length (outs-append (y.step p) x.start front (r.1 ∷ []) ∙ ap (λ l. sends_of (y.step p) x.start front ++ l) (append-nil sends)) ∙ length-append (sends_of (y.step p) x.start front) sends in
          let hs : length (x.held ++ held_of r.1 sends) ≡ length x.held + length sends = length-append x.held (held_of r.1 sends) ∙ ap (λ n. length x.held + n) (length-held r.1 sends) in
          ((omega arith), (omega arith))

  pub way_falls : (way : Way) (x : ProcessState S B) → Falls x (undo_by way y p x)
  way_falls Aggressive x = undo_falls x
  way_falls Lazy x = lazily_falls x

  pub deliver_falls : (l : Letter B) (x : ProcessState S B) → Falls x (deliver y.order l x)
  deliver_falls l x = go l.anti
    where
      still : (ps ds : List (Event B)) → Falls x (Turned (with_bags x ps ds x.held) [])
      still ps ds = ((omega arith), (omega arith))

      message : (b : Bool) → Falls x (cond b (Turned (with_bags x x.pending (without y.order l.event x.debts) x.held) []) (Turned (with_bags x (insert_in_order y.order l.event x.pending) x.debts x.held) []))
      message true = still x.pending (without y.order l.event x.debts)
      message false = still (insert_in_order y.order l.event x.pending) x.debts

      last : (b : Bool) → Falls x (cond b (Turned (with_bags x (without y.order l.event x.pending) x.debts x.held) []) (Turned (with_bags x (without y.order l.event x.pending) x.debts (held_without y.order l.event x.held)) (letters_of true (held_with y.order l.event x.held))))
      last true = still (without y.order l.event x.pending) x.debts
      last false =
          let parts = held_parts y.order l.event x.held in
          let ls = length-letters true (held_with y.order l.event x.held) in
          ((omega arith), (omega arith))

      anti : (b c : Bool) → Falls x (cond b (annihilate y.order l.event x) (cond c (Stays StillDone) (Turned (with_bags x x.pending (insert_in_order y.order l.event x.debts) x.held) [])))
      anti true c = last (has y.order l.event (without y.order l.event x.pending))
      anti false true = tt
      anti false false = still x.pending (insert_in_order y.order l.event x.debts)

      go : (b : Bool) → Falls x (cond b (deliver_anti y.order l.event x) (deliver_message y.order l.event x))
      go true = anti (has y.order l.event x.pending) (has y.order l.event x.processed)
      go false = message (has y.order l.event x.debts)

  falls_out : (x z : ProcessState S B) (out : List (Letter B)) → Falls x (Turned z out) → (t : Turn S B) → Falls z t → Falls x (with_out out t)
  falls_out x z out a (Stays f) b = tt
  falls_out x z out a (Turned u more) b = ((omega (arith, a.0, b.0, length-append out more)), (omega (arith, a.1, b.1)))

  falls_and : (way : Way) (x : ProcessState S B) (t : Turn S B) → Falls x t → Falls x (and_undo (undo_by way y p) t)
  falls_and way x (Stays f) a = tt
  falls_and way x (Turned z out) a = falls_out x z out a (undo_by way y p z) (way_falls way z)

  undoings_fall : (way : Way) (k : ℕ) (x : ProcessState S B) → Falls x (undo_times (undo_by way y p) k x)
  undoings_fall way zero x = ((omega arith), (omega arith))
  undoings_fall way (suc k) x = falls_and way x (undo_times (undo_by way y p) k x) (undoings_fall way k x)

  pub arrival_falls : (way : Way) (l : Letter B) (x z : ProcessState S B) (given : List (Letter B)) → ArrivedBy way y p l x z given → (work z + length given ≤ work x) × (length (done z) ≤ length (done x))
  arrival_falls way l x z given a =
      let first = subst (Falls x) a.undone (undoings_fall way a.count x) in
      let then_ = subst (Falls a.between) a.delivered (deliver_falls l a.between) in
      let n : length given ≡ length a.unsent + length a.rest = ap length a.all ∙ length-append a.unsent a.rest in
      ((omega (arith, first.0, then_.0)), (omega (arith, first.1, then_.1)))

  pub execute_counts : (x z : ProcessState S B) (out : List (Letter B)) → execute_next y p x ≡ Turned z out → length (done z) ≡ length (done x) + 1
  execute_counts x z out h = go x.pending h
    where
      more : (e : Event B) (rest : List (Event B)) (left : List (Held B)) → after_execution y p x e rest left ≡ z → length (done z) ≡ length (done x) + 1
      more e rest left q = ap (λ u. length (done u)) (sym q) ∙ ap length (sym (append_assoc x.committed x.processed (e ∷ []))) ∙ length-append (done x) (e ∷ [])

      late : (b : Bool) (e : Event B) (rest : List (Event B)) (sends : List (Event B) × List (Held B)) → cond b (Stays Rattle.rw_lp.specs.declared.answer.StepFault.TheVariants.Straggler) (execute_event y p x e rest sends) ≡ Turned z out → length (done z) ≡ length (done x) + 1
      late true e rest sends k = cc
      late false e rest sends k = more e rest sends.1 (let q : after_execution y p x e rest sends.1 ≡ z = cc in q)

      go : (es : List (Event B)) → execute_least y p x es ≡ Turned z out → length (done z) ≡ length (done x) + 1
      go [] k = cc
      go (e ∷ rest) k = late (is_less_than_last y.order e (split_last (done x))) e rest (Rattle.rw_lp.specs.HeldMessages.unheld_sends y.order (y.step p x.state e).1 x.held) k

  -- without its last event, however what that had sent is dealt with
  one_fewer : (x z : ProcessState S B) (r : List (Event B) × Event B) (hs : List (Held B)) → x.processed ≡ r.0 ++ r.1 ∷ [] → after_undoing y p x r.0 r.1 hs ≡ z → length (done z) + 1 ≡ length (done x)
  one_fewer x z r hs q is =
      let a : length (done z) ≡ length (x.committed ++ r.0) = ap (λ u. length (done u)) (sym is) in
      let b : length (done x) ≡ length (x.committed ++ r.0) + 1 = ap length (ap (λ l. x.committed ++ l) q ∙ sym (append_assoc x.committed r.0 (r.1 ∷ []))) ∙ length-append (x.committed ++ r.0) (r.1 ∷ []) in
      omega arith

  pub undo_counts : (way : Way) (x z : ProcessState S B) (out : List (Letter B)) → undo_by way y p x ≡ Turned z out → length (done z) + 1 ≡ length (done x)
  undo_counts Aggressive x z out h = go (split_last x.processed) (split_is x.processed) h
    where
      go : (o : Option (List (Event B) × Event B)) → IsSplit x.processed o → undo_last y p x o ≡ Turned z out → length (done z) + 1 ≡ length (done x)
      go None q k = cc
      go (Some r) q k = one_fewer x z r x.held q (let is : after_undoing y p x r.0 r.1 x.held ≡ z = cc in is)
  undo_counts Lazy x z out h = go (split_last x.processed) (split_is x.processed) h
    where
      held_then : List (Event B) × Event B → List (Held B)
      held_then r = x.held ++ held_of r.1 (sends_of_last y p x r.0 r.1)

      go : (o : Option (List (Event B) × Event B)) → IsSplit x.processed o → undo_last_lazily y p x o ≡ Turned z out → length (done z) + 1 ≡ length (done x)
      go None q k = cc
      go (Some r) q k = one_fewer x z r (held_then r) q (let is : after_undoing y p x r.0 r.1 (held_then r) ≡ z = cc in is)

-- one process among others
module _ {M S B : Type 0} (y : Rules S B) where
  pub sizes_set : (q : ℕ) (xs : List (LogicalProcess M S B)) (l z : LogicalProcess M S B) → slice_get xs q ≡ Some l → sizes y (slice_set xs q z) + size y l ≡ sizes y xs + size y z
  sizes_set q [] l z h = cc
  sizes_set zero (u ∷ xs) l z h = let k : u ≡ l = cc in let a : size y u ≡ size y l = ap (size y) k in omega arith
  sizes_set (suc q) (u ∷ xs) l z h = omega (arith, sizes_set q xs l z h)

pub dones_set : {M S B : Type 0} (xs : List (LogicalProcess M S B)) (q : ℕ) (l z : LogicalProcess M S B) → slice_get xs q ≡ Some l → dones (slice_set xs q z) + length (done l.process) ≡ dones xs + length (done z.process)
dones_set [] q l z h = cc
dones_set (u ∷ xs) zero l z h = let k : u ≡ l = cc in let a : length (done u.process) ≡ length (done l.process) = ap (λ w. length (done w.process)) k in omega arith
dones_set (u ∷ xs) (suc q) l z h = omega (arith, dones_set xs q l z h)

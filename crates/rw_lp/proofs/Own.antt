-- What is pending, owed and held stays for the process, and what a process keeps makes it sound where it has collected.
use Rattle.std.proofs.Common.{◌≡◌, ℕ, ◌+◌, ◌<◌, Bool, true, false, List, [], ◌∷◌, ◌++◌, get_or, refl, sym, ap, subst, arith, ◌∙◌, append_assoc}
use Rattle.std.specs.Prelude.{All}
use Rattle.std.proofs.lemmas.List.Elements.{All-nil, All-cons, All-head, All-tail, All-append, All-weaker}
use Rattle.std.specs.declared.cmp.Ordering.{Ordering}
use Rattle.std.specs.Ordering.{is_eq}
use Rattle.rw_vt.specs.declared.event.Event.{Event}
use Rattle.rw_vt.specs.declared.model.Model.{Ghosts}
use Rattle.rw_vt.specs.Order.{event_cmp, AtMost, copies, one_if_same, Each, Has, IsAscending, insert_in_order, has, without}
use Rattle.rw_vt.specs.System.{Rules, state_after, rules}
use Rattle.rw_vt.specs.Valid.{IsSentBy}
use Rattle.rw_vt.proofs.Sorting.{IsExactOrder, tied, at_most_itself, copies-insert, Has-left, Has-right, Has-head}
use Rattle.rw_vt.proofs.Bags.{one_if-itself, one_if-other, Each-insert, Each-without, Each-append, Each-front, Each-cons, Each-nil, copies-without, Has-test}
use Rattle.rw_lp.specs.declared.held.Held.{Held}
use Rattle.rw_lp.specs.HeldMessages.{held_of, unheld_sends}
use Rattle.rw_lp.specs.HeldBack.{held_after, held_unless}
use Rattle.rw_lp.specs.Past.{HistoryState, IsFor, IsTakenBack, done_in}
use Rattle.rw_lp.specs.Own.{AreFor}
use Rattle.rw_lp.specs.Calls.{process_of}
use Rattle.rw_lp.specs.Sound.{SoundAt, HasCollected, IsHeldFor}
use Rattle.rw_lp.proofs.Arriving.{all_up_to_last}
use Rattle.rw_lp.proofs.Holding.{held_more, held_rest, held_append, held_unheld}
use Rattle.rw_lp.proofs.HeldRuns.{all_unheld, all_without, all_of}

module _ {M S B U : Type 0} (model : Ghosts M S B U) {order : B → B → Ordering} (x : HistoryState M S B) (ps ds : List (Event B)) (hs : List (Held B)) (h : AreFor model order x ps ds hs) where
  -- of the same process, which has done no other events
  pub still_for : (z : HistoryState M S B) → z.model ≡ x.model → z.number ≡ x.number → ((e : Event B) → Has (event_cmp order) (done_in z) e → Has (event_cmp order) (done_in x) e) → AreFor model order z ps ds hs
  still_for z m n less = record {
    pending = moved ps h.pending;
    debts = moved ds h.debts;
    held = subst (λ a. All (IsHeldFor (rules model order a) ps) hs) (sym m) h.held;
    late = All-weaker (λ (k : Held B). Each (event_cmp order) (λ e. AtMost (event_cmp order) e k.undone) (done_in x)) (λ (k : Held B). Each (event_cmp order) (λ e. AtMost (event_cmp order) e k.undone) (done_in z)) (λ k all e there. all e (less e there)) hs h.late;
  }
    where
      moved : (es : List (Event B)) → Each (event_cmp order) (IsFor model x.model x.number) es → Each (event_cmp order) (IsFor model z.model z.number) es
      moved es k = subst (λ a. Each (event_cmp order) (IsFor model a z.number) es) (sym m) (subst (λ q. Each (event_cmp order) (IsFor model x.model q) es) (sym n) k)

  module _ (o : IsExactOrder (event_cmp order)) (e : Event B) (es : List (Event B)) where
    pub pending_more : IsFor model x.model x.number e → es ≡ insert_in_order (event_cmp order) e ps → AreFor model order x es ds hs
    pending_more k is = subst (λ l. AreFor model order x l ds hs) (sym is) (record {
      pending = Each-insert o (IsFor model x.model x.number) e ps k h.pending;
      debts = h.debts;
      held = held_more (rules model order x.model) ps (insert_in_order (event_cmp order) e ps) (λ a j. omega (arith, copies-insert o a e ps)) hs h.held;
      late = h.late;
    })

    pub debts_less : es ≡ without (event_cmp order) e ds → AreFor model order x ps es hs
    debts_less is = record { pending = h.pending; debts = subst (Each (event_cmp order) (IsFor model x.model x.number)) (sym is) (Each-without o (IsFor model x.model x.number) e ds h.debts); held = h.held; late = h.late }

    pub debts_more : IsFor model x.model x.number e → es ≡ insert_in_order (event_cmp order) e ds → AreFor model order x ps es hs
    debts_more k is = record { pending = h.pending; debts = subst (Each (event_cmp order) (IsFor model x.model x.number)) (sym is) (Each-insert o (IsFor model x.model x.number) e ds k h.debts); held = h.held; late = h.late }

  -- a copy of e leaves what is pending, and with the last one what is held with it
  pub pending_less : (o : IsExactOrder (event_cmp order)) (e : Event B) (es : List (Event B)) (ks : List (Held B)) → has (event_cmp order) e ps ≡ true → es ≡ without (event_cmp order) e ps → ks ≡ held_unless (has (event_cmp order) e es) (event_cmp order) e hs → AreFor model order x es ds ks
  pending_less o e es ks there is left = go (has (event_cmp order) e es) refl left
    where
      less : Each (event_cmp order) (IsFor model x.model x.number) es
      less = subst (Each (event_cmp order) (IsFor model x.model x.number)) (sym is) (Each-without o (IsFor model x.model x.number) e ps h.pending)

      counts : (a : Event B) → copies (event_cmp order) a ps ≡ one_if_same (event_cmp order) a e + copies (event_cmp order) a es
      counts a = copies-without o a e ps there ∙ ap (λ l. one_if_same (event_cmp order) a e + copies (event_cmp order) a l) (sym is)

      others : (a : Event B) → is_eq (event_cmp order a e) ≡ false → 0 < copies (event_cmp order) a ps → 0 < copies (event_cmp order) a es
      others a q k = omega (arith, counts a, one_if-other o a e q)

      still : has (event_cmp order) e es ≡ true → (a : Event B) → 0 < copies (event_cmp order) a ps → 0 < copies (event_cmp order) a es
      still more a k = either (is_eq (event_cmp order a e)) refl
        where
          either : (b : Bool) → is_eq (event_cmp order a e) ≡ b → 0 < copies (event_cmp order) a es
          either true q = subst (λ v. 0 < copies (event_cmp order) v es) (sym (tied o a e q)) (Has-test o e es more)
          either false q = others a q k

      go : (b : Bool) → has (event_cmp order) e es ≡ b → ks ≡ held_unless b (event_cmp order) e hs → AreFor model order x es ds ks
      go true more same = subst (AreFor model order x es ds) (sym same) (record {
        pending = less;
        debts = h.debts;
        held = held_more (rules model order x.model) ps es (still more) hs h.held;
        late = h.late;
      })
      go false none same = subst (AreFor model order x es ds) (sym same) (record {
        pending = less;
        debts = h.debts;
        held = held_rest (rules model order x.model) e ps es others hs h.held;
        late = all_without (event_cmp order) (λ (k : Held B). Each (event_cmp order) (λ a. AtMost (event_cmp order) a k.undone) (done_in x)) e hs h.late;
      })

  -- the least pending event is executed
  pub executed_for : (o : IsExactOrder (event_cmp order)) (e : Event B) (es sends : List (Event B)) (ks : List (Held B)) (z : HistoryState M S B)
      → ps ≡ e ∷ es → Each (event_cmp order) (λ a. AtMost (event_cmp order) e a) ps → z.model ≡ x.model → z.number ≡ x.number → done_in z ≡ done_in x ++ e ∷ [] → ks ≡ held_after (event_cmp order) e sends hs → AreFor model order z es ds ks
  executed_for o e es sends ks z is least m n more left = subst (AreFor model order z es ds) (sym left) (record {
    pending = subst (λ a. Each (event_cmp order) (IsFor model a z.number) es) (sym m) (subst (λ q. Each (event_cmp order) (IsFor model x.model q) es) (sym n) (λ a k. h.pending a (rest_there a k)));
    debts = subst (λ a. Each (event_cmp order) (IsFor model a z.number) ds) (sym m) (subst (λ q. Each (event_cmp order) (IsFor model x.model q) ds) (sym n) h.debts);
    held = subst (λ a. All (IsHeldFor (rules model order a) es) (held_after (event_cmp order) e sends hs)) (sym m) (held_rest (rules model order x.model) e ps es others unheld (held_unheld (rules model order x.model) ps sends hs h.held));
    late = All-weaker (λ (k : Held B). Each (event_cmp order) (λ a. AtMost (event_cmp order) a k.undone) (done_in x) × AtMost (event_cmp order) e k.undone) (λ (k : Held B). Each (event_cmp order) (λ a. AtMost (event_cmp order) a k.undone) (done_in z)) (λ k both. subst (Each (event_cmp order) (λ a. AtMost (event_cmp order) a k.undone)) (sym more) (Each-append o (λ a. AtMost (event_cmp order) a k.undone) (done_in x) (e ∷ []) both.0 (Each-cons o (λ a. AtMost (event_cmp order) a k.undone) e [] both.1 (Each-nil o (λ a. AtMost (event_cmp order) a k.undone))))) (held_after (event_cmp order) e sends hs)
        (all_without (event_cmp order) (λ (k : Held B). Each (event_cmp order) (λ a. AtMost (event_cmp order) a k.undone) (done_in x) × AtMost (event_cmp order) e k.undone) e unheld
        (all_unheld (event_cmp order) (λ (k : Held B). Each (event_cmp order) (λ a. AtMost (event_cmp order) a k.undone) (done_in x) × AtMost (event_cmp order) e k.undone) sends hs (λ k d within. (h.late k d within, least (get_or hs k d).undone (h.held k d within).there))));
  })
    where
      unheld : List (Held B)
      unheld = (unheld_sends (event_cmp order) sends hs).1

      counts : (a : Event B) → copies (event_cmp order) a ps ≡ one_if_same (event_cmp order) a e + copies (event_cmp order) a es
      counts a = ap (copies (event_cmp order) a) is

      rest_there : (a : Event B) → 0 < copies (event_cmp order) a es → 0 < copies (event_cmp order) a ps
      rest_there a k = omega (arith, counts a)

      others : (a : Event B) → is_eq (event_cmp order a e) ≡ false → 0 < copies (event_cmp order) a ps → 0 < copies (event_cmp order) a es
      others a q k = omega (arith, counts a, one_if-other o a e q)

  -- what the last event had sent, which is undone, is held with it: it may, and that keeps all
  module _ (o : IsExactOrder (event_cmp order)) (front : List (Event B)) (e : Event B) (is : done_in x ≡ front ++ e ∷ []) where
    last_there : Has (event_cmp order) (done_in x) e
    last_there = subst (λ l. Has (event_cmp order) l e) (sym is) (Has-right o e front (e ∷ []) (Has-head o e []))

    pub may_hold : All (λ (k : Held B). AtMost (event_cmp order) e k.undone) hs
    may_hold = All-weaker (λ (k : Held B). Each (event_cmp order) (λ a. AtMost (event_cmp order) a k.undone) (done_in x)) (λ (k : Held B). AtMost (event_cmp order) e k.undone) (λ k all. all e last_there) hs h.late

fresh_held : {S B : Type 0} (y : Rules S B) (p : ℕ) (ps : List (Event B)) (e : Event B) → Has y.order ps e → (ms : List (Event B)) → All (λ m. IsSentBy p e m × (y.valid m ≡ true)) ms → All (IsHeldFor y ps) (held_of e ms)
fresh_held y p ps e there [] all = All-nil (IsHeldFor y ps)
fresh_held {S} {B} y p ps e there (m ∷ ms) all =
    let first = All-head (λ (m : Event B). IsSentBy p e m × (y.valid m ≡ true)) m ms all in
    All-cons (IsHeldFor y ps) (record { undone = e; message = m }) (held_of e ms) (record { there = there; valid = first.1; later = first.0.later }) (fresh_held y p ps e there ms (All-tail (λ (m : Event B). IsSentBy p e m × (y.valid m ≡ true)) m ms all))

-- what the last event had sent, which is undone, is held with it
pub undone_for : {M S B U : Type 0} (model : Ghosts M S B U) {order : B → B → Ordering} (o : IsExactOrder (event_cmp order)) (x z : HistoryState M S B) (ps ds es front sends : List (Event B)) (hs ks : List (Held B)) (e : Event B)
    → AreFor model order x ps ds hs → z.model ≡ x.model → z.number ≡ x.number → IsAscending (event_cmp order) (done_in x) → done_in x ≡ front ++ e ∷ [] → done_in z ≡ front
    → IsFor model x.model x.number e → All (λ m. IsSentBy x.number e m × (model.is_valid x.model m ≡ true)) sends → es ≡ insert_in_order (event_cmp order) e ps → ks ≡ hs ++ held_of e sends
    → AreFor model order z es ds ks
undone_for {M} {S} {B} model {order} o x z ps ds es front sends hs ks e own m n up is left here sent es_is ks_is = subst (AreFor model order z es ds) (sym ks_is) (record {
  pending = old.pending;
  debts = old.debts;
  held = held_append (rules model order z.model) es hs (held_of e sends) old.held (fresh_held (rules model order z.model) x.number es e there sends (subst (λ a. All (λ m. IsSentBy x.number e m × (model.is_valid a m ≡ true)) sends) (sym m) sent));
  late = All-append (λ (k : Held B). Each (event_cmp order) (λ a. AtMost (event_cmp order) a k.undone) (done_in z)) hs (held_of e sends) old.late (all_of (event_cmp order) (λ (k : Held B). Each (event_cmp order) (λ a. AtMost (event_cmp order) a k.undone) (done_in z)) e sends (λ m. subst (Each (event_cmp order) (λ a. AtMost (event_cmp order) a e)) (sym left) before));
})
  where
    old : AreFor model order z es ds hs
    old = still_for model x es ds hs (pending_more model x ps ds hs own o e es here es_is) z m n (λ a k. subst (λ l. Has (event_cmp order) l a) (sym is) (Has-left o a front (e ∷ []) (subst (λ l. Has (event_cmp order) l a) left k)))

    there : Has (event_cmp order) es e
    there = subst (λ l. Has (event_cmp order) l e) (sym es_is) (omega (arith, copies-insert o e e ps, one_if-itself o e))

    before : Each (event_cmp order) (λ a. AtMost (event_cmp order) a e) front
    before = Each-front o (λ a. AtMost (event_cmp order) a e) front (e ∷ []) (all_up_to_last o e front e (subst (IsAscending (event_cmp order)) is up) (at_most_itself o e))

module _ {M S B U : Type 0} (model : Ghosts M S B U) {order : B → B → Ordering} (o : IsExactOrder (event_cmp order)) (x z : HistoryState M S B) (ps ds es sends : List (Event B)) (hs : List (Held B)) (e : Event B) (own : AreFor model order x ps ds hs)
    (back : IsTakenBack model (event_cmp order) x z e sends) where
  same_model : z.model ≡ x.model
  same_model = ap (λ (w : HistoryState M S B). w.model) back.rest

  same_number : z.number ≡ x.number
  same_number = ap (λ (w : HistoryState M S B). w.number) back.rest

  one_less : done_in x ≡ done_in z ++ e ∷ []
  one_less = ap (λ l. x.committed ++ l) back.last ∙ sym (append_assoc x.committed z.processed (e ∷ [])) ∙ ap (λ l. (l ++ z.processed) ++ e ∷ []) (sym (ap (λ (w : HistoryState M S B). w.committed) back.rest))

  -- the last event is undone, and what it had sent is cancelled
  pub undone_own : es ≡ insert_in_order (event_cmp order) e ps → AreFor model order z es ds hs
  undone_own is = still_for model x es ds hs (pending_more model x ps ds hs own o e es (back.valid, back.here) is) z same_model same_number (λ a k. subst (λ l. Has (event_cmp order) l a) (sym one_less) (Has-left o a (done_in z) (e ∷ []) k))

  -- or held
  pub may_be_held : All (λ (k : Held B). AtMost (event_cmp order) e k.undone) hs
  may_be_held = may_hold model x ps ds hs own o (done_in z) e one_less

  pub undone_lazily_own : (ks : List (Held B)) → es ≡ insert_in_order (event_cmp order) e ps → ks ≡ hs ++ held_of e sends → AreFor model order z es ds ks
  undone_lazily_own ks is more = undone_for model o x z ps ds es (done_in z) sends hs ks e own same_model same_number back.order one_less refl (back.valid, back.here) back.future is more

pub sound_where : {M S B U : Type 0} (model : Ghosts M S B U) (order : B → B → Ordering) (x : HistoryState M S B) (ps ds : List (Event B)) (hs : List (Held B))
    → IsAscending (event_cmp order) (x.committed ++ x.processed)
    → x.state ≡ state_after (model.step x.model x.number) x.start (x.committed ++ x.processed)
    → Each (event_cmp order) (IsFor model x.model x.number) x.committed
    → Each (event_cmp order) (IsFor model x.model x.number) x.processed
    → AreFor model order x ps ds hs
    → IsAscending (event_cmp order) ps
    → IsAscending (event_cmp order) ds
    → (g : ℕ) → HasCollected (event_cmp order) g (process_of x ps ds hs).process
    → SoundAt (rules model order x.model) g x.number (process_of x ps ds hs).process
sound_where model order x ps ds hs up fold committed processed own ps_up ds_up g parted = record {
  order = up;
  state = fold;
  committed_stand = λ e k. let h = committed e k in record { valid = h.0; here = h.1 };
  committed_below = parted.committed;
  processed_stand = λ e k. let h = processed e k in record { valid = h.0; here = h.1 };
  processed_from = parted.processed;
  pending_stand = λ e k. let h = own.pending e k in record { valid = h.0; here = h.1 };
  pending_from = parted.pending;
  pending_order = ps_up;
  debts_stand = λ e k. let h = own.debts e k in record { valid = h.0; here = h.1 };
  debts_from = parted.debts;
  debts_order = ds_up;
  held = own.held;
}

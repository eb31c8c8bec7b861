-- Held messages as they are kept: where the pairs of one event stand, where one message stands, and what stays true as they come and go.
use Rattle.std.proofs.Common.{◌≡◌, ℕ, zero, suc, ◌+◌, ◌-◌, ◌<◌, ◌≤◌, Bool, true, false, cond, List, [], ◌∷◌, ◌++◌, length, get_or, take, drop, refl, sym, ap, ◌∙◌, arith, true≢false, append_assoc, append-nil, min}
use Rattle.std.specs.Prelude.{◌||◌, All, IsTrue, nat_eq}
use Rattle.std.specs.List as lists
use Rattle.std.specs.List.{AllWithin}
use Rattle.std.specs.List.Sorted.{IsPartitionedBy}
use Rattle.std.specs.declared.cmp.Ordering.{Ordering}
use Rattle.std.specs.declared.cmp.Ordering.TheVariants.{Less, Equal, Greater}
use Rattle.std.specs.Ordering.{is_gt, is_eq, is_ge}
use Rattle.std.proofs.lemmas.Bool.{eqb-true}
use Rattle.std.proofs.lemmas.List.Elements.{All-nil, All-cons, All-head, All-tail, All-append}
use Rattle.rw_vt.specs.declared.event.Event.{Event}
use Rattle.rw_vt.specs.declared.event.Letter.{Letter}
use Rattle.rw_vt.specs.Letters.{letters_of}
use Rattle.rw_vt.specs.Order.{AtMost, one_if_same, copies, insert_in_order, has, without}
use Rattle.rw_vt.proofs.Sorting.{IsExactOrder, tied, at_most_itself, at_most_chain, copies-append, copies-insert}
use Rattle.rw_vt.proofs.Bags.{one_if-itself, copies-without}
use Rattle.rw_lp.specs.declared.held.Held.{Held}
use Rattle.rw_lp.specs.HeldMessages.{held_messages, held_of, holds, held_without_first, unheld_sends, held_with, held_without}
use Rattle.rw_lp.specs.HeldBack.{AreFalling, AreCounted, IsRunOf, letters_given, held_after, antis_unless, held_unless}
use Rattle.rw_bag.specs.Bags.{least_time}
use Rattle.rw_bag.proofs.Cited.{has_some, has_same, least_below, least_each, least_both, ge_back, not_gt_back}
use Rattle.rw_lp.proofs.Plain.{unheld_none}
use Rattle.rw_lp.specs.Sound.{IsHeldFor}
use Rattle.rw_vt.specs.System.{Rules}

gt_not_eq : (r : Ordering) → is_gt r ≡ true → is_eq r ≡ false
gt_not_eq Less h = absurd (true≢false (sym h))
gt_not_eq Equal h = absurd (true≢false (sym h))
gt_not_eq Greater h = refl

gt_ge : (r : Ordering) → is_gt r ≡ true → is_ge r ≡ true
gt_ge Less h = absurd (true≢false (sym h))
gt_ge Equal h = absurd (true≢false (sym h))
gt_ge Greater h = refl

ge_eq : (r : Ordering) → is_gt r ≡ false → is_ge r ≡ true → is_eq r ≡ true
ge_eq Less h k = absurd (true≢false (sym k))
ge_eq Equal h k = refl
ge_eq Greater h k = absurd (true≢false h)

not_ge_not_eq : (r : Ordering) → is_ge r ≡ false → is_eq r ≡ false
not_ge_not_eq Less h = refl
not_ge_not_eq Equal h = absurd (true≢false h)
not_ge_not_eq Greater h = absurd (true≢false h)

-- what holds of each pair holds of those that are left
module _ {B : Type 0} (cmp : Event B → Event B → Ordering) (P : Held B → Type 0) where
  pub all_released : (m : Event B) (hs : List (Held B)) → All P hs → All P (held_without_first cmp m hs)
  all_released m [] all = All-nil P
  all_released m (h ∷ hs) all = go (is_eq (cmp m h.message)) (all_released m hs (All-tail P h hs all))
    where
      go : (b : Bool) → All P (held_without_first cmp m hs) → All P (cond b hs (h ∷ held_without_first cmp m hs))
      go true k = All-tail P h hs all
      go false k = All-cons P h (held_without_first cmp m hs) (All-head P h hs all) k

  pub all_unheld : (ms : List (Event B)) (hs : List (Held B)) → All P hs → All P (unheld_sends cmp ms hs).1
  all_unheld [] hs all = all
  all_unheld (m ∷ ms) hs all = go (holds cmp m hs) (all_unheld ms (held_without_first cmp m hs) (all_released m hs all)) (all_unheld ms hs all)
    where
      go : (b : Bool) → All P (unheld_sends cmp ms (held_without_first cmp m hs)).1 → All P (unheld_sends cmp ms hs).1 →
          All P (cond {A = List (Event B) × List (Held B)} b (unheld_sends cmp ms (held_without_first cmp m hs)) (m ∷ (unheld_sends cmp ms hs).0, (unheld_sends cmp ms hs).1)).1
      go true a b = a
      go false a b = b

  pub all_without : (e : Event B) (hs : List (Held B)) → All P hs → All P (held_without cmp e hs)
  all_without e [] all = All-nil P
  all_without e (h ∷ hs) all = go (is_eq (cmp h.undone e)) (all_without e hs (All-tail P h hs all))
    where
      go : (b : Bool) → All P (held_without cmp e hs) → All P (cond b (held_without cmp e hs) (h ∷ held_without cmp e hs))
      go true k = k
      go false k = All-cons P h (held_without cmp e hs) (All-head P h hs all) k

  pub all_of : (e : Event B) (ms : List (Event B)) → ((m : Event B) → P (record { undone = e; message = m })) → All P (held_of e ms)
  all_of e [] f = All-nil P
  all_of e (m ∷ ms) f = All-cons P (record { undone = e; message = m }) (held_of e ms) (f m) (all_of e ms f)

module _ {B : Type 0} {cmp : Event B → Event B → Ordering} (o : IsExactOrder cmp) where
  falls : (hs : List (Held B)) → AreFalling cmp hs → (i j : ℕ) (d : Held B) → i ≤ j → j < length hs → AtMost cmp (get_or hs j d).undone (get_or hs i d).undone
  falls [] f i j d h k = absurd (omega arith)
  falls (h ∷ hs) f zero zero d q k = at_most_itself o h.undone
  falls (h ∷ hs) f zero (suc j) d q k = f.0 j d (omega arith)
  falls (h ∷ hs) f (suc i) zero d q k = absurd (omega arith)
  falls (h ∷ hs) f (suc i) (suc j) d q k = falls hs f.1 i j d (omega arith) (omega arith)

  -- those of greater events stand first, and so do those of events that are not less
  pub greater_first : (e : Event B) (hs : List (Held B)) → AreFalling cmp hs → IsPartitionedBy (λ (h : Held B). is_gt (cmp h.undone e)) hs
  greater_first e hs f i j d h within passes = go (is_gt (cmp (get_or hs i d).undone e)) refl
    where
      go : (b : Bool) → is_gt (cmp (get_or hs i d).undone e) ≡ b → b ≡ true
      go true q = refl
      go false q = absurd (true≢false (sym passes ∙ at_most_chain o (get_or hs j d).undone (get_or hs i d).undone e (falls hs f i j d h within) q))

  pub not_less_first : (e : Event B) (hs : List (Held B)) → AreFalling cmp hs → IsPartitionedBy (λ (h : Held B). is_ge (cmp h.undone e)) hs
  not_less_first e hs f i j d h within passes =
      let below : AtMost cmp e (get_or hs j d).undone = ap is_gt (o.total.antisymm e (get_or hs j d).undone) ∙ ge_back (cmp (get_or hs j d).undone e) passes in
      let chain : AtMost cmp e (get_or hs i d).undone = at_most_chain o e (get_or hs j d).undone (get_or hs i d).undone below (falls hs f i j d h within) in
      ap is_ge (o.total.antisymm (get_or hs i d).undone e) ∙ not_gt_back (cmp e (get_or hs i d).undone) chain

  pub falling_released : (m : Event B) (hs : List (Held B)) → AreFalling cmp hs → AreFalling cmp (held_without_first cmp m hs)
  falling_released m [] f = tt
  falling_released m (h ∷ hs) f = go (is_eq (cmp m h.message)) (falling_released m hs f.1)
    where
      go : (b : Bool) → AreFalling cmp (held_without_first cmp m hs) → AreFalling cmp (cond b hs (h ∷ held_without_first cmp m hs))
      go true k = f.1
      go false k = (all_released cmp (λ (x : Held B). AtMost cmp x.undone h.undone) m hs f.0, k)

  pub falling_without : (e : Event B) (hs : List (Held B)) → AreFalling cmp hs → AreFalling cmp (held_without cmp e hs)
  falling_without e [] f = tt
  falling_without e (h ∷ hs) f = go (is_eq (cmp h.undone e)) (falling_without e hs f.1)
    where
      go : (b : Bool) → AreFalling cmp (held_without cmp e hs) → AreFalling cmp (cond b (held_without cmp e hs) (h ∷ held_without cmp e hs))
      go true k = k
      go false k = (all_without cmp (λ (x : Held B). AtMost cmp x.undone h.undone) e hs f.0, k)

  falling_of : (e : Event B) (ms : List (Event B)) → AreFalling cmp (held_of e ms)
  falling_of e [] = tt
  falling_of e (m ∷ ms) = (all_of cmp (λ (x : Held B). AtMost cmp x.undone e) e ms (λ k. at_most_itself o e), falling_of e ms)

  pub falling_more : (e : Event B) (ms : List (Event B)) (hs : List (Held B)) → AreFalling cmp hs → All (λ (h : Held B). AtMost cmp e h.undone) hs → AreFalling cmp (hs ++ held_of e ms)
  falling_more e ms [] f all = falling_of e ms
  falling_more e ms (h ∷ hs) f all = (
    All-append (λ (x : Held B). AtMost cmp x.undone h.undone) hs (held_of e ms) f.0 (all_of cmp (λ (x : Held B). AtMost cmp x.undone h.undone) e ms (λ m. All-head (λ (x : Held B). AtMost cmp e x.undone) h hs all)),
    falling_more e ms hs f.1 (All-tail (λ (x : Held B). AtMost cmp e x.undone) h hs all),
  )

  pub count_released : (a m : Event B) (hs : List (Held B)) → holds cmp m hs ≡ true → copies cmp a (held_messages hs) ≡ one_if_same cmp a m + copies cmp a (held_messages (held_without_first cmp m hs))
  count_released a m [] h = absurd (true≢false (sym h))
  count_released a m (x ∷ hs) h = go (is_eq (cmp m x.message)) refl h (count_released a m hs)
    where
      go : (b : Bool) → is_eq (cmp m x.message) ≡ b → (b || holds cmp m hs) ≡ true → (holds cmp m hs ≡ true → copies cmp a (held_messages hs) ≡ one_if_same cmp a m + copies cmp a (held_messages (held_without_first cmp m hs))) →
          one_if_same cmp a x.message + copies cmp a (held_messages hs) ≡ one_if_same cmp a m + copies cmp a (held_messages (cond b hs (x ∷ held_without_first cmp m hs)))
      go true q k ih = let same : one_if_same cmp a m ≡ one_if_same cmp a x.message = ap (one_if_same cmp a) (tied o m x.message q) in omega arith
      go false q k ih = omega (arith, ih k)

  -- one message leaves the counts
  pub counts_released : (m : Event B) (ms ns : List (Event B)) (hs : List (Held B)) → AreCounted cmp ms (held_messages hs) → has cmp m ms ≡ true → ns ≡ without cmp m ms
      → ((a : Event B) → copies cmp a (held_messages hs) ≡ one_if_same cmp a m + copies cmp a (held_messages (held_without_first cmp m hs))) → AreCounted cmp ns (held_messages (held_without_first cmp m hs))
  counts_released m ms ns hs counted there is gone a =
      let less : copies cmp a ns ≡ copies cmp a (without cmp m ms) = ap (copies cmp a) is in
      omega (arith, less, copies-without o a m ms there, counted a, gone a)

  -- the count tells whether a message is held
  pub held_test : (m : Event B) (ms : List (Event B)) (hs : List (Held B)) → AreCounted cmp ms (held_messages hs) → has cmp m ms ≡ holds cmp m hs
  held_test m ms hs counted = has_same o m ms (held_messages hs) (counted m) ∙ same hs
    where
      same : (hs : List (Held B)) → has cmp m (held_messages hs) ≡ holds cmp m hs
      same [] = refl
      same (h ∷ hs) = ap (λ b. is_eq (cmp m h.message) || b) (same hs)

-- the places of the pairs of event e
module _ {B : Type 0} (cmp : Event B → Event B → Ordering) (e : Event B) where
  pub run_is : (hs : List (Held B)) (n k : ℕ) → n ≤ length hs → k ≤ length hs
      → AllWithin (λ (h : Held B). is_gt (cmp h.undone e) ≡ true) hs 0 n → AllWithin (λ (h : Held B). is_gt (cmp h.undone e) ≡ false) hs n (length hs)
      → AllWithin (λ (h : Held B). is_ge (cmp h.undone e) ≡ true) hs 0 k → AllWithin (λ (h : Held B). is_ge (cmp h.undone e) ≡ false) hs k (length hs)
      → IsRunOf cmp e hs n k
  run_is [] zero zero n_in k_in a b c d = record { in_order = omega arith; within = omega arith; there = refl; others = refl }
  run_is [] zero (suc k) n_in k_in a b c d = absurd (omega arith)
  run_is [] (suc n) k n_in k_in a b c d = absurd (omega arith)
  run_is (h ∷ hs) (suc n) zero n_in k_in a b c d = absurd (true≢false (sym (gt_ge (cmp h.undone e) (a 0 h (omega arith) (omega arith))) ∙ d 0 h (omega arith) (omega arith)))
  run_is (h ∷ hs) (suc n) (suc k) n_in k_in a b c d =
      let r = run_is hs n k (omega arith) (omega arith)
      (λ i x p q. a (suc i) x (omega arith) (omega arith)) (λ i x p q. b (suc i) x (omega arith) (omega arith))
      (λ i x p q. c (suc i) x (omega arith) (omega arith)) (λ i x p q. d (suc i) x (omega arith) (omega arith)) in
      let other : is_eq (cmp h.undone e) ≡ false = gt_not_eq (cmp h.undone e) (a 0 h (omega arith) (omega arith)) in
      let size : suc k - suc n ≡ k - n = omega arith in
      let ordered = r.in_order in
      let within = r.within in
      record {
        in_order = omega (arith, ordered);
        within = omega (arith, within);
        there = ap (λ b. cond b (h.message ∷ held_with cmp e hs) (held_with cmp e hs)) other ∙ r.there ∙ ap (λ j. held_messages (take j (drop n hs))) (sym size);
        others = ap (λ b. cond b (held_without cmp e hs) (h ∷ held_without cmp e hs)) other ∙ ap (λ l. h ∷ l) r.others;
      }
  run_is (h ∷ hs) zero (suc k) n_in k_in a b c d =
      let r = run_is hs zero k (omega arith) (omega arith)
      (λ i x p q. absurd (omega arith)) (λ i x p q. b (suc i) x (omega arith) (omega arith))
      (λ i x p q. c (suc i) x (omega arith) (omega arith)) (λ i x p q. d (suc i) x (omega arith) (omega arith)) in
      let own : is_eq (cmp h.undone e) ≡ true = ge_eq (cmp h.undone e) (b 0 h (omega arith) (omega arith)) (c 0 h (omega arith) (omega arith)) in
      let size : suc k - 0 ≡ suc (k - 0) = omega arith in
      let within = r.within in
      record {
        in_order = omega arith;
        within = omega (arith, within);
        there = ap (λ b. cond b (h.message ∷ held_with cmp e hs) (held_with cmp e hs)) own ∙ ap (λ l. h.message ∷ l) r.there ∙ ap (λ j. held_messages (take j (h ∷ hs))) (sym size);
        others = ap (λ b. cond b (held_without cmp e hs) (h ∷ held_without cmp e hs)) own ∙ r.others;
      }
  run_is (h ∷ hs) zero zero n_in k_in a b c d =
      let r = run_is hs zero zero (omega arith) (omega arith)
      (λ i x p q. absurd (omega arith)) (λ i x p q. b (suc i) x (omega arith) (omega arith))
      (λ i x p q. absurd (omega arith)) (λ i x p q. d (suc i) x (omega arith) (omega arith)) in
      let other : is_eq (cmp h.undone e) ≡ false = not_ge_not_eq (cmp h.undone e) (d 0 h (omega arith) (omega arith)) in
      record {
        in_order = omega arith;
        within = omega arith;
        there = ap (λ b. cond b (h.message ∷ held_with cmp e hs) (held_with cmp e hs)) other ∙ r.there;
        others = ap (λ b. cond b (held_without cmp e hs) (h ∷ held_without cmp e hs)) other ∙ ap (λ l. h ∷ l) r.others;
      }

-- the place of message m
module _ {B : Type 0} (cmp : Event B → Event B → Ordering) (m : Event B) where
  neither : (b c : Bool) → (b || c) ≡ false → (b ≡ false) × (c ≡ false)
  neither true c h = absurd (true≢false h)
  neither false c h = (refl, h)

  -- nothing before it
  pub first_place : (hs : List (Held B)) (i : ℕ) (d : Held B) → holds cmp m (take i hs) ≡ false → i < length hs → is_eq (cmp m (get_or hs i d).message) ≡ true → lists.remove hs i ≡ held_without_first cmp m hs
  first_place [] i d none within here = absurd (omega arith)
  first_place (h ∷ hs) zero d none within here = ap (λ b. cond b hs (h ∷ held_without_first cmp m hs)) (sym here)
  first_place (h ∷ hs) (suc i) d none within here =
      let both = neither (is_eq (cmp m h.message)) (holds cmp m (take i hs)) none in
      ap (λ l. h ∷ l) (first_place hs i d both.1 (omega arith) here) ∙ ap (λ b. cond b hs (h ∷ held_without_first cmp m hs)) (sym both.0)

  copy_at : (hs : List (Held B)) (i : ℕ) (d : Held B) → i < length hs → is_eq (cmp m (get_or hs i d).message) ≡ true → 0 < copies cmp m (held_messages hs)
  copy_at [] i d within here = absurd (omega arith)
  copy_at (h ∷ hs) zero d within here = let one : one_if_same cmp m h.message ≡ 1 = ap (λ b. cond b 1 0) here in omega arith
  copy_at (h ∷ hs) (suc i) d within here = let more = copy_at hs i d (omega arith) here in omega (arith, more)

  -- the only copy
  pub only_place : (hs : List (Held B)) (i : ℕ) (d : Held B) → copies cmp m (held_messages hs) ≤ 1 → i < length hs → is_eq (cmp m (get_or hs i d).message) ≡ true → lists.remove hs i ≡ held_without_first cmp m hs
  only_place [] i d alone within here = absurd (omega arith)
  only_place (h ∷ hs) zero d alone within here = ap (λ b. cond b hs (h ∷ held_without_first cmp m hs)) (sym here)
  only_place (h ∷ hs) (suc i) d alone within here = go (is_eq (cmp m h.message)) refl (λ k. only_place hs i d k (omega arith) here)
    where
      go : (b : Bool) → is_eq (cmp m h.message) ≡ b → (copies cmp m (held_messages hs) ≤ 1 → lists.remove hs i ≡ held_without_first cmp m hs) → h ∷ lists.remove hs i ≡ held_without_first cmp m (h ∷ hs)
      go true q rest =
          let one : one_if_same cmp m h.message ≡ 1 = ap (λ b. cond b 1 0) q in
          let more = copy_at hs i d (omega arith) here in
          absurd (omega (arith, more))
      go false q rest =
          let none : one_if_same cmp m h.message ≡ 0 = ap (λ b. cond b 1 0) q in
          ap (λ l. h ∷ l) (rest (omega arith)) ∙ ap (λ b. cond b hs (h ∷ held_without_first cmp m hs)) (sym q)

-- one more at the end of the first few
pub messages_more : {B : Type 0} (hs : List (Held B)) (i : ℕ) (d : Held B) → i < length hs → held_messages (take (i + 1) hs) ≡ held_messages (take i hs) ++ (get_or hs i d).message ∷ []
messages_more [] i d h = absurd (omega arith)
messages_more (x ∷ hs) zero d h = refl
messages_more (x ∷ hs) (suc i) d h = let next : suc i + 1 ≡ suc (i + 1) = omega arith in rw next (ap (λ l. x.message ∷ l) (messages_more hs i d (omega arith)))

pub holds_more : {B : Type 0} (cmp : Event B → Event B → Ordering) (m : Event B) (hs : List (Held B)) (i : ℕ) (d : Held B) → i < length hs → holds cmp m (take i hs) ≡ false → is_eq (cmp m (get_or hs i d).message) ≡ false → holds cmp m (take (i + 1) hs) ≡ false
holds_more cmp m [] i d h none other = absurd (omega arith)
holds_more cmp m (x ∷ hs) zero d h none other = ap (λ b. b || false) other
holds_more cmp m (x ∷ hs) (suc i) d h none other =
    let next : suc i + 1 ≡ suc (i + 1) = omega arith in
    let both = neither cmp m (is_eq (cmp m x.message)) (holds cmp m (take i hs)) none in
    rw next (ap (λ b. b || holds cmp m (take (i + 1) hs)) both.0 ∙ holds_more cmp m hs i d (omega arith) both.1 other)

pub letters_push : {B : Type 0} (b : Bool) (es : List (Event B)) (e : Event B) → letters_of b (es ++ e ∷ []) ≡ letters_of b es ++ record { event = e; anti = b } ∷ []
letters_push b [] e = refl
letters_push b (x ∷ xs) e = ap (λ l. record { event = x; anti = b } ∷ l) (letters_push b xs e)

pub antis_more : {B : Type 0} (hs : List (Held B)) (i : ℕ) (d : Held B) (old out new : List (Letter B)) → i < length hs → out ≡ old ++ letters_of true (held_messages (take i hs)) → new ≡ out ++ record { event = (get_or hs i d).message; anti = true } ∷ []
    → new ≡ old ++ letters_of true (held_messages (take (i + 1) hs))
antis_more {B} hs i d old out new within is more =
    let one : List (Letter B) = record { event = (get_or hs i d).message; anti = true } ∷ [] in
    more ∙ ap (λ l. l ++ one) is ∙ append_assoc old (letters_of true (held_messages (take i hs))) one
    ∙ ap (λ l. old ++ l) (sym (ap (letters_of true) (messages_more hs i d within) ∙ letters_push true (held_messages (take i hs)) (get_or hs i d).message))

pub given_more : {B : Type 0} (hs : List (Held B)) (i : ℕ) (d : Held B) (old out new : List (Event B)) → i < length hs → out ≡ old ++ held_messages (take i hs) → new ≡ out ++ (get_or hs i d).message ∷ []
    → new ≡ old ++ held_messages (take (i + 1) hs)
given_more {B} hs i d old out new within is more =
    let one : List (Event B) = (get_or hs i d).message ∷ [] in
    more ∙ ap (λ l. l ++ one) is ∙ append_assoc old (held_messages (take i hs)) one
    ∙ ap (λ l. old ++ l) (sym (messages_more hs i d within))

pub pairs_more : {B : Type 0} (e : Event B) (ms : List (Event B)) (i : ℕ) (d : Event B) → i < length ms → held_of e (take (i + 1) ms) ≡ held_of e (take i ms) ++ record { undone = e; message = get_or ms i d } ∷ []
pairs_more e [] i d h = absurd (omega arith)
pairs_more e (m ∷ ms) zero d h = refl
pairs_more e (m ∷ ms) (suc i) d h = let next : suc i + 1 ≡ suc (i + 1) = omega arith in rw next (ap (λ l. record { undone = e; message = m } ∷ l) (pairs_more e ms i d (omega arith)))

module _ {B : Type 0} (cmp : Event B → Event B → Ordering) where
  messages_push : (a : Event B) (hs : List (Held B)) (h : Held B) → copies cmp a (held_messages (hs ++ h ∷ [])) ≡ copies cmp a (held_messages hs) + one_if_same cmp a h.message
  messages_push a [] h = omega arith
  messages_push a (x ∷ hs) h = omega (arith, messages_push a hs h)

  count_first : (a : Event B) (n : ℕ) (hs : List (Held B)) → copies cmp a (held_messages (take n hs)) ≤ copies cmp a (held_messages hs)
  count_first a zero hs = omega arith
  count_first a (suc n) [] = omega arith
  count_first a (suc n) (h ∷ hs) = omega (arith, count_first a n hs)

  -- what is held with e, and the rest
  pub count_parts : (a e : Event B) (hs : List (Held B)) → copies cmp a (held_messages hs) ≡ copies cmp a (held_with cmp e hs) + copies cmp a (held_messages (held_without cmp e hs))
  count_parts a e [] = refl
  count_parts a e (h ∷ hs) = go (is_eq (cmp h.undone e)) (count_parts a e hs)
    where
      go : (b : Bool) → copies cmp a (held_messages hs) ≡ copies cmp a (held_with cmp e hs) + copies cmp a (held_messages (held_without cmp e hs)) →
          one_if_same cmp a h.message + copies cmp a (held_messages hs) ≡ copies cmp a (cond b (h.message ∷ held_with cmp e hs) (held_with cmp e hs)) + copies cmp a (held_messages (cond b (held_without cmp e hs) (h ∷ held_without cmp e hs)))
      go true k = omega arith
      go false k = omega arith

  -- one send more of an execution, which is not held
  pub more_sent : (all : List (Event B)) (i : ℕ) (s : Event B) (hs left : List (Held B)) (out new total : List (Letter B)) → drop i all ≡ s ∷ drop (i + 1) all → holds cmp s hs ≡ false → new ≡ out ++ record { event = s; anti = false } ∷ []
      → (out ++ letters_of false (unheld_sends cmp (drop i all) hs).0 ≡ total) × ((unheld_sends cmp (drop i all) hs).1 ≡ left)
      → (new ++ letters_of false (unheld_sends cmp (drop (i + 1) all) hs).0 ≡ total) × ((unheld_sends cmp (drop (i + 1) all) hs).1 ≡ left)
  more_sent all i s hs left out new total next none more known =
      let rest : List (Event B) × List (Held B) = unheld_sends cmp (drop (i + 1) all) hs in
      let one : List (Letter B) = record { event = s; anti = false } ∷ [] in
      let both : unheld_sends cmp (drop i all) hs ≡ (s ∷ rest.0, rest.1) = ap (λ l. unheld_sends cmp l hs) next ∙ ap (λ b. cond {A = List (Event B) × List (Held B)} b (unheld_sends cmp (drop (i + 1) all) (held_without_first cmp s hs)) (s ∷ rest.0, rest.1)) none in (
        ap (λ l. l ++ letters_of false rest.0) more ∙ append_assoc out one (letters_of false rest.0) ∙ sym (ap (λ (r : List (Event B) × List (Held B)). out ++ letters_of false r.0) both) ∙ known.0,
        sym (ap (λ (r : List (Event B) × List (Held B)). r.1) both) ∙ known.1,
      )

  -- which is held
  pub more_released : (all : List (Event B)) (i : ℕ) (s : Event B) (hs less left : List (Held B)) (out total : List (Letter B)) → drop i all ≡ s ∷ drop (i + 1) all → holds cmp s hs ≡ true → less ≡ held_without_first cmp s hs
      → (out ++ letters_of false (unheld_sends cmp (drop i all) hs).0 ≡ total) × ((unheld_sends cmp (drop i all) hs).1 ≡ left)
      → (out ++ letters_of false (unheld_sends cmp (drop (i + 1) all) less).0 ≡ total) × ((unheld_sends cmp (drop (i + 1) all) less).1 ≡ left)
  more_released all i s hs less left out total next there gone known =
      let rest : List (Event B) × List (Held B) = unheld_sends cmp (drop (i + 1) all) hs in
      let both : unheld_sends cmp (drop i all) hs ≡ unheld_sends cmp (drop (i + 1) all) less =
      ap (λ l. unheld_sends cmp l hs) next
      ∙ ap (λ b. cond {A = List (Event B) × List (Held B)} b (unheld_sends cmp (drop (i + 1) all) (held_without_first cmp s hs)) (s ∷ rest.0, rest.1)) there
      ∙ ap (unheld_sends cmp (drop (i + 1) all)) (sym gone) in (
        sym (ap (λ (r : List (Event B) × List (Held B)). out ++ letters_of false r.0) both) ∙ known.0,
        sym (ap (λ (r : List (Event B) × List (Held B)). r.1) both) ∙ known.1,
      )

  -- with nothing held all is sent
  pub none_held : (e : Event B) (ms : List (Event B)) (hs : List (Held B)) → hs ≡ [] → (letters_of false ms ≡ letters_given cmp e ms hs) × (hs ≡ held_after cmp e ms hs)
  none_held e ms hs none =
      let all : unheld_sends cmp ms hs ≡ (ms, []) = ap (unheld_sends cmp ms) none ∙ unheld_none cmp ms in (
        sym (ap (λ (r : List (Event B) × List (Held B)). letters_of false r.0 ++ letters_of true (held_with cmp e r.1)) all ∙ append-nil (letters_of false ms)),
        none ∙ sym (ap (λ (r : List (Event B) × List (Held B)). held_without cmp e r.1) all),
      )

module _ {B : Type 0} {cmp : Event B → Event B → Ordering} (o : IsExactOrder cmp) where
  pub forgotten_more : (hs : List (Held B)) (i : ℕ) (d : Held B) (ms ns all : List (Event B)) → i < length hs
      → ((m : Event B) → copies cmp m ms + copies cmp m (held_messages (take i hs)) ≡ copies cmp m all) → ((m : Event B) → copies cmp m (held_messages hs) ≤ copies cmp m all)
      → ns ≡ without cmp (get_or hs i d).message ms → (m : Event B) → copies cmp m ns + copies cmp m (held_messages (take (i + 1) hs)) ≡ copies cmp m all
  forgotten_more hs i d ms ns all within known enough is m =
      let e : Event B = (get_or hs i d).message in
      let count : (a : Event B) → copies cmp a (held_messages (take (i + 1) hs)) ≡ copies cmp a (held_messages (take i hs)) + one_if_same cmp a e = λ a. ap (copies cmp a) (messages_more hs i d within) ∙ copies-append o a (held_messages (take i hs)) (e ∷ []) ∙ omega arith in
      let first = count_first cmp e (i + 1) hs in
      let one : one_if_same cmp e e ≡ 1 = one_if-itself o e in
      let there : has cmp e ms ≡ true = has_some o e ms (omega (arith, known e, enough e, count e, first, one)) in
      let less : copies cmp m ns ≡ copies cmp m (without cmp e ms) = ap (copies cmp m) is in
      omega (arith, known m, count m, less, copies-without o m e ms there)

  -- one pair more is held
  pub counted_put : (ms ns : List (Event B)) (hs ks : List (Held B)) (h : Held B) → AreCounted cmp ms (held_messages hs) → ns ≡ insert_in_order cmp h.message ms → ks ≡ hs ++ h ∷ [] → AreCounted cmp ns (held_messages ks)
  counted_put ms ns hs ks h counted more is a =
      let n1 : copies cmp a ns ≡ copies cmp a (insert_in_order cmp h.message ms) = ap (copies cmp a) more in
      let k1 : copies cmp a (held_messages ks) ≡ copies cmp a (held_messages (hs ++ h ∷ [])) = ap (λ l. copies cmp a (held_messages l)) is in
      omega (arith, n1, k1, counted a, copies-insert o a h.message ms, messages_push cmp a hs h)

pub zero_if : (n : ℕ) → IsTrue (nat_eq n 0) → n ≡ 0
zero_if n h = eqb-true n 0 h

-- no held message is before all pending events
module _ {S B : Type 0} (y : Rules S B) (o : IsExactOrder y.order) (ps : List (Event B)) (m : ℕ) where
  not_before : (k : ℕ) → k ≤ m → k ≤ least_time m ps → (hs : List (Held B)) → All (IsHeldFor y ps) hs → k ≤ least_time m (held_messages hs)
  not_before k end early [] all = end
  not_before k end early (h ∷ hs) all =
      let first : IsHeldFor y ps h = All-head (IsHeldFor y ps) h hs all in
      let late : h.undone.time < h.message.time = first.later in
      let known = least_each o m ps h.undone first.there in
      let rest = not_before k end early hs (All-tail (IsHeldFor y ps) h hs all) in
      omega (arith, known, late, rest)

  pub held_least : (ds : List (Event B)) (hs : List (Held B)) → All (IsHeldFor y ps) hs → least_time (least_time (least_time m (held_messages hs)) ds) ps ≡ min (least_time m ps) (least_time m ds)
  held_least ds hs all =
      let held : ℕ = least_time m (held_messages hs) in
      let late = not_before (least_time m ps) (least_below m ps) (omega arith) hs all in
      omega (arith, late, least_both held ps ds, least_both m ps (held_messages hs), least_both m ds (held_messages hs))

module _ {B : Type 0} (cmp : Event B → Event B → Ordering) (e : Event B) where
  pub none_unless : (b : Bool) (hs : List (Held B)) → hs ≡ [] → (antis_unless b cmp e hs ≡ []) × (hs ≡ held_unless b cmp e hs)
  none_unless true hs none = (refl, refl)
  none_unless false hs none = (ap (λ l. letters_of true (held_with cmp e l)) none, none ∙ ap (held_without cmp e) (sym none))

-- one message more is held
pub held_further : {B : Type 0} (e : Event B) (sends : List (Event B)) (i : ℕ) (s : Event B) (old hs ks : List (Held B)) → i < length sends → s ≡ get_or sends i s
    → hs ≡ old ++ held_of e (take i sends) → ks ≡ hs ++ held_of e (s ∷ []) → ks ≡ old ++ held_of e (take (i + 1) sends)
held_further {B} e sends i s old hs ks within read known push =
    let pair : Event B → List (Held B) = λ m. record { undone = e; message = m } ∷ [] in
    push ∙ ap (λ l. l ++ pair s) known ∙ append_assoc old (held_of e (take i sends)) (pair s) ∙ ap (λ m. old ++ (held_of e (take i sends) ++ pair m)) read ∙ ap (λ l. old ++ l) (sym (pairs_more e sends i s within))

pub still_last : {B : Type 0} {cmp : Event B → Event B → Ordering} (o : IsExactOrder cmp) (e : Event B) (ms : List (Event B)) (hs : List (Held B)) → All (λ (h : Held B). AtMost cmp e h.undone) hs → All (λ (h : Held B). AtMost cmp e h.undone) (hs ++ held_of e ms)
still_last {B} {cmp} o e ms hs all = All-append (λ (h : Held B). AtMost cmp e h.undone) hs (held_of e ms) all (all_of cmp (λ (h : Held B). AtMost cmp e h.undone) e ms (λ m. at_most_itself o e))

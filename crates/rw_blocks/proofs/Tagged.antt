-- How the tags of the blocks follow the sections.
use Rattle.std.proofs.Common.{◌≡◌, ℕ, zero, suc, ◌+◌, ◌-◌, ◌≤◌, ◌<◌, List, [], ◌∷◌, refl, sym, ap, subst, ◌∙◌, arith, Bool, true, false, cond, nat_eq, inl, inr, length, set, get_or, length-set, get_or-set_same, get_or-set_other}
use Rattle.std.specs.Prelude.{Option, Some, None, insert, remove, not, ◌||◌, ◌&&◌, position, IfSome, IsNone, nat_lt}
use Rattle.std.specs.List.{position_or_len}
use Rattle.std.proofs.lemmas.List.Sums.{position_or_len_is, passes_at_first, fails_before_first}
use Rattle.std.proofs.lemmas.Bool.{cond-false, ltb-false, ltb-true, lt-ltb, le-ltb, eq-eqb, ne_eqb, eqb-true, eqb-false, cases_eq, cases_lt, or_parts}
use Rattle.std.proofs.lemmas.List.Edits.{length-insert, length-remove, get_or-insert_below, get_or-insert_at, get_or-insert_above, get_or-remove_below, get_or-remove_above}
use Rattle.rw_blocks.specs.Sections.{SectionState, no_section, section_in, has_block}
use Rattle.std.specs.List.{list_any}
use Rattle.rw_blocks.specs.Tags.{tag_in, is_tag, IsAbsent, IsOnlyIn, IsTagged, Parts, ComesFrom, Joins}

pub by_test : {P : Type 0} (b : Bool) → (b ≡ true → P) → (b ≡ false → P) → P
by_test true hit miss = hit refl
by_test false hit miss = miss refl

-- ---- tags
is_tag-some : (o : Option ℕ) (t : ℕ) → is_tag o t ≡ true → o ≡ Some t
is_tag-some None t h = absurd (cc)
is_tag-some (Some u) t h = ap Some (eqb-true u t h)

nat_eq-swap : (a b : ℕ) → nat_eq a b ≡ false → nat_eq b a ≡ false
nat_eq-swap a b h = ne_eqb b a (λ e. eqb-false a b h (sym e))

self_tag : (t : ℕ) → nat_eq t t ≡ true
self_tag t = eq-eqb t t refl

some_none : {X : Type 0} {x : X} → Some x ≡ None → ⊥
some_none e = cc

true_false : true ≡ false → ⊥
true_false e = cc

-- the sections as tests of the blocks
pub record Tagged (n : ℕ) (has : ℕ → ℕ → Bool) (tag : ℕ → ℕ) (owner : ℕ → Option ℕ) : Type 0 where
  pub found : (i b : ℕ) → i < n → has i b ≡ is_tag (owner b) (tag i)
  pub apart : (i j : ℕ) → i < n → j < n → (i ≡ j → ⊥) → nat_eq (tag i) (tag j) ≡ false
  pub others : (b : ℕ) → ((i : ℕ) → i < n → has i b ≡ false) → owner b ≡ None

-- a block that one section has is in no other
pub only_in : (n : ℕ) (has : ℕ → ℕ → Bool) (tag : ℕ → ℕ) (owner : ℕ → Option ℕ) → Tagged n has tag owner
    → (i j b : ℕ) → i < n → j < n → has i b ≡ true → (i ≡ j → ⊥) → has j b ≡ false
only_in n has tag owner t i j b lt lt' here apart =
    let is : owner b ≡ Some (tag i) = is_tag-some (owner b) (tag i) (sym (t.found i b lt) ∙ here) in
    t.found j b lt' ∙ (ap (λ o. is_tag o (tag j)) is ∙ t.apart i j lt lt' apart)

-- a block that no section has comes to one
pub claimed : (n : ℕ) (has has' : ℕ → ℕ → Bool) (tag : ℕ → ℕ) (f g : ℕ → Option ℕ) (i x : ℕ) → Tagged n has tag f → i < n
    → ((j : ℕ) → j < n → has j x ≡ false)
    → ((b : ℕ) → has' i b ≡ (nat_eq x b || has i b))
    → ((j b : ℕ) → (i ≡ j → ⊥) → has' j b ≡ has j b)
    → ((b : ℕ) → g b ≡ cond (nat_eq x b) (Some (tag i)) (f b))
    → Tagged n has' tag g
claimed n has has' tag f g i x t lt absent here other owner =
    record {
      found = λ j b lt'. elim (cases_eq i j) [
        | inl e ↦
            let P : ℕ → Type 0 = λ k. has' k b ≡ is_tag (g b) (tag k) in
            subst P e
            (rw (here b, owner b)
            (by_test (nat_eq x b) (λ h. rw h (sym (self_tag (tag i)))) (λ h. rw h (t.found i b lt))))
        | inr n ↦
            rw (other j b n, owner b)
            (by_test (nat_eq x b)
            (λ h. rw h (ap (has j) (sym (eqb-true x b h)) ∙ (absent j lt' ∙ sym (t.apart i j lt lt' n))))
            (λ h. rw h (t.found j b lt')))
      ];
      apart = t.apart;
      others = λ b none. by_test (nat_eq x b)
          (λ h. let w : true ≡ false = rw (here b, h) at (none i lt) in absurd (true_false w))
          (λ h. rw (owner b, h) (t.others b (λ j lt'. elim (cases_eq i j) [
            | inl e ↦ (let P : ℕ → Type 0 = λ k. has k b ≡ false in subst P e (rw (here b, h) at (none i lt)))
            | inr n ↦ sym (other j b n) ∙ none j lt'
          ])));
    }

-- a block leaves its section
pub released : (n : ℕ) (has has' : ℕ → ℕ → Bool) (tag : ℕ → ℕ) (f g : ℕ → Option ℕ) (i x : ℕ) → Tagged n has tag f → i < n
    → ((b : ℕ) → has i b ≡ (nat_eq x b || has' i b))
    → has' i x ≡ false
    → ((j b : ℕ) → (i ≡ j → ⊥) → has' j b ≡ has j b)
    → ((b : ℕ) → g b ≡ cond (nat_eq x b) None (f b))
    → Tagged n has' tag g
released n has has' tag f g i x t lt here gone other owner =
    let there : has i x ≡ true = here x ∙ ap (λ c. c || has' i x) (self_tag x) in
    record {
      found = λ j b lt'. rw (owner b)
          (by_test (nat_eq x b)
          (λ h. rw h (elim (cases_eq i j) [
            | inl e ↦ ap (λ k. has' k b) (sym e) ∙ (ap (has' i) (sym (eqb-true x b h)) ∙ gone)
            | inr n ↦ other j b n ∙ (ap (has j) (sym (eqb-true x b h)) ∙ only_in _ has tag f t i j x lt lt' there n)
          ]))
          (λ h. rw h (elim (cases_eq i j) [
            | inl e ↦ ap (λ k. has' k b) (sym e) ∙ (sym (rw h at (here b)) ∙ (ap (λ k. has k b) e ∙ t.found j b lt'))
            | inr n ↦ other j b n ∙ t.found j b lt'
          ])));
      apart = t.apart;
      others = λ b none. rw (owner b)
          (by_test (nat_eq x b) (λ h. rw h refl)
          (λ h. rw h (t.others b (λ j lt'. elim (cases_eq i j) [
            | inl e ↦ ap (λ k. has k b) (sym e) ∙ (rw h at (here b) ∙ none i lt)
            | inr n ↦ sym (other j b n) ∙ none j lt'
          ]))));
    }

-- a new section, at p, takes some blocks
pub parted : (n m : ℕ) (has has' : ℕ → ℕ → Bool) (tag tag' : ℕ → ℕ) (f g : ℕ → Option ℕ) (member : ℕ → Bool) (p t : ℕ) (src dst : ℕ → ℕ) → Tagged n has tag f → p < m
    → ((j : ℕ) → j < n → nat_eq t (tag j) ≡ false)
    → ((j : ℕ) → j < m → (p ≡ j → ⊥) → src j < n)
    → ((j k : ℕ) → (p ≡ j → ⊥) → (p ≡ k → ⊥) → src j ≡ src k → j ≡ k)
    → ((k : ℕ) → k < n → (dst k < m) × (p ≡ dst k → ⊥) × (src (dst k) ≡ k))
    → tag' p ≡ t
    → ((j : ℕ) → j < m → (p ≡ j → ⊥) → tag' j ≡ tag (src j))
    → ((b : ℕ) → has' p b ≡ member b)
    → ((j b : ℕ) → j < m → (p ≡ j → ⊥) → has' j b ≡ (has (src j) b && not (member b)))
    → ((b : ℕ) → g b ≡ cond (member b) (Some t) (f b))
    → Tagged m has' tag' g
parted n m has has' tag tag' f g member p t src dst old lt fresh within one back new-tag old-tag new-has old-has owner =
    record {
      found = λ j b lt'. elim (cases_eq p j) [
        | inl e ↦
            let P : ℕ → Type 0 = λ k. has' k b ≡ is_tag (g b) (tag' k) in
            subst P e
            (rw (new-has b, owner b, new-tag)
            (by_test (member b) (λ h. rw h (sym (self_tag t))) (λ h. rw h (sym (untagged b)))))
        | inr n ↦
            rw (old-has j b lt' n, owner b, old-tag j lt' n)
            (by_test (member b)
            (λ h. rw h (nothing (has (src j) b) ∙ sym (fresh (src j) (within j lt' n))))
            (λ h. rw h (all_of (has (src j) b) ∙ old.found (src j) b (within j lt' n))))
      ];
      apart = λ j k lt' lt'' ne. elim (cases_eq p j) [
        | inl e ↦
            let other : p ≡ k → ⊥ = λ same. ne (sym e ∙ same) in
            rw (ap tag' (sym e) ∙ new-tag, old-tag k lt'' other) (fresh (src k) (within k lt'' other))
        | inr a ↦ elim (cases_eq p k) [
          | inl e ↦ rw (ap tag' (sym e) ∙ new-tag, old-tag j lt' a) (nat_eq-swap t (tag (src j)) (fresh (src j) (within j lt' a)))
          | inr b ↦ rw (old-tag j lt' a, old-tag k lt'' b) (old.apart (src j) (src k) (within j lt' a) (within k lt'' b) (λ same. ne (one j k a b same)))
        ]
      ];
      others = λ b none.
          let out : member b ≡ false = sym (new-has b) ∙ none p lt in
          rw (owner b, out) (old.others b (λ k lt'.
          let d = back k lt' in
          let e : (has (src (dst k)) b && not (member b)) ≡ false = sym (old-has (dst k) b d.0 d.1) ∙ none (dst k) d.0 in
          let e' : has (src (dst k)) b ≡ false = sym (all_of (has (src (dst k)) b)) ∙ (rw out at e) in
          ap (λ i. has i b) (sym d.2) ∙ e'));
    }
  where
    nothing : (c : Bool) → (c && false) ≡ false
    nothing true = refl
    nothing false = refl

    all_of : (c : Bool) → (c && true) ≡ c
    all_of true = refl
    all_of false = refl

    -- no block has the new tag so far
    untagged : (b : ℕ) → is_tag (f b) t ≡ false
    untagged b =
        by_test (is_tag (f b) t)
        (λ h.
        let is : f b ≡ Some t = is_tag-some (f b) t h in
        let none : f b ≡ None = old.others b (λ k lt'. old.found k b lt' ∙ (ap (λ o. is_tag o (tag k)) is ∙ fresh k lt')) in
        absurd (some_none (sym is ∙ none)))
        (λ h. h)

-- a section, at p, gives its blocks to the one at i, but for those that are gone
pub joined : (n m : ℕ) (has has' : ℕ → ℕ → Bool) (tag tag' : ℕ → ℕ) (f g : ℕ → Option ℕ) (gone : ℕ → Bool) (i p : ℕ) (src dst : ℕ → ℕ) → Tagged n has tag f → i < n → p < n → i < m → (p ≡ i → ⊥)
    → src i ≡ i
    → ((j : ℕ) → j < m → (src j < n) × (p ≡ src j → ⊥))
    → ((j k : ℕ) → src j ≡ src k → j ≡ k)
    → ((k : ℕ) → k < n → (p ≡ k → ⊥) → (dst k < m) × (src (dst k) ≡ k))
    → ((j : ℕ) → j < m → tag' j ≡ tag (src j))
    → ((b : ℕ) → has' i b ≡ (has i b || (has p b && not (gone b))))
    → ((j b : ℕ) → j < m → (i ≡ j → ⊥) → has' j b ≡ has (src j) b)
    → ((b : ℕ) → g b ≡ cond (has p b) (cond (gone b) None (Some (tag i))) (f b))
    → Tagged m has' tag' g
joined n m has has' tag tag' f g gone i p src dst old lt lt-p lt-m ne same within one back tags here other owner =
    record {
      found = λ j b lt'. elim (cases_eq i j) [
        | inl e ↦
            let P : ℕ → Type 0 = λ k. has' k b ≡ is_tag (g b) (tag' k) in
            subst P e
            (rw (here b, owner b, tags i lt-m, same)
            (by_test (has p b)
            (λ h. rw (h, only_in n has tag f old p i b lt-p lt h ne) (by_test (gone b) (λ w. rw w refl) (λ w. rw w (sym (self_tag (tag i))))))
            (λ h. rw h (none_more (has i b) ∙ old.found i b lt))))
        | inr a ↦
            rw (other j b lt' a, owner b, tags j lt')
            (by_test (has p b)
            (λ h.
            let away : has (src j) b ≡ false = only_in n has tag f old p (src j) b lt-p (within j lt').0 h (within j lt').1 in
            rw (h, away) (by_test (gone b) (λ w. rw w refl) (λ w. rw w (sym (old.apart i (src j) lt (within j lt').0 (λ e. a (one i j (same ∙ e))))))))
            (λ h. rw h (old.found (src j) b (within j lt').0)))
      ];
      apart = λ j k lt' lt'' a. rw (tags j lt', tags k lt'') (old.apart (src j) (src k) (within j lt').0 (within k lt'').0 (λ e. a (one j k e)));
      others = λ b none. rw (owner b)
          (by_test (has p b)
          (λ h. rw h (by_test (gone b) (λ w. rw w refl)
          (λ w. let bad : (has i b || true) ≡ false = rw (here b, h, w) at (none i lt-m) in absurd (true_false (sym (some_more (has i b)) ∙ bad)))))
          (λ h. rw h (old.others b (λ k lt'. elim (cases_eq p k) [
            | inl e ↦ ap (λ y. has y b) (sym e) ∙ h
            | inr a ↦
                let d = back k lt' a in
                elim (cases_eq i (dst k)) [
                  | inl e ↦
                      let is-k : i ≡ k = sym same ∙ (ap src e ∙ d.1) in
                      let off : (has i b || false) ≡ false = rw (here b, h) at (none i lt-m) in
                      ap (λ y. has y b) (sym is-k) ∙ (sym (none_more (has i b)) ∙ off)
                  | inr z ↦ ap (λ y. has y b) (sym d.1) ∙ (sym (other (dst k) b d.0 z) ∙ none (dst k) d.0)
                ]
          ]))));
    }
  where
    none_more : (c : Bool) → (c || false) ≡ c
    none_more true = refl
    none_more false = refl

    some_more : (c : Bool) → (c || true) ≡ true
    some_more true = refl
    some_more false = refl

-- ---- the same of lists of sections and of tags
abbrev pub has_in : List SectionState → ℕ → ℕ → Bool
has_in ss i b = has_block b (section_in ss i)

to_tests : (ss : List SectionState) (tags : List ℕ) (f : ℕ → Option ℕ) → IsTagged ss tags f → Tagged (length ss) (has_in ss) (tag_in tags) f
to_tests ss tags f t = record { found = t.found; apart = t.apart; others = t.others }

from_tests : (n : ℕ) (ss : List SectionState) (tags : List ℕ) (f : ℕ → Option ℕ) → length ss ≡ n → length tags ≡ n → Tagged n (has_in ss) (tag_in tags) f → IsTagged ss tags f
from_tests n ss tags f long long' t =
    record {
      long = long' ∙ sym long;
      found = λ i b lt. t.found i b (omega arith);
      apart = λ i j lt lt' a. t.apart i j (omega arith) (omega arith) a;
      others = λ b none. t.others b (λ i lt. none i (omega arith));
    }

pub IsTagged-claim : (ss : List SectionState) (tags : List ℕ) (f g : ℕ → Option ℕ) (i x : ℕ) (s : SectionState) → IsTagged ss tags f → i < length ss → IsAbsent x ss
    → ((b : ℕ) → has_block b s ≡ (nat_eq x b || has_block b (section_in ss i)))
    → ((b : ℕ) → g b ≡ cond (nat_eq x b) (Some (tag_in tags i)) (f b))
    → IsTagged (set ss i s) tags g
IsTagged-claim ss tags f g i x s t lt absent has owner =
    from_tests (length ss) (set ss i s) tags g (length-set ss i s) t.long
    (claimed (length ss) (has_in ss) (has_in (set ss i s)) (tag_in tags) f g i x (to_tests ss tags f t) lt absent
    (λ b. ap (has_block b) (get_or-set_same ss i s no_section lt) ∙ has b)
    (λ j b a. ap (has_block b) (get_or-set_other ss i j s no_section (λ e. a (sym e))))
    owner)

pub IsTagged-release : (ss : List SectionState) (tags : List ℕ) (f g : ℕ → Option ℕ) (i x : ℕ) (s : SectionState) → IsTagged ss tags f → i < length ss
    → ((b : ℕ) → has_block b (section_in ss i) ≡ (nat_eq x b || has_block b s))
    → has_block x s ≡ false
    → ((b : ℕ) → g b ≡ cond (nat_eq x b) None (f b))
    → IsTagged (set ss i s) tags g
IsTagged-release ss tags f g i x s t lt has gone owner =
    let same = λ (b : ℕ). ap (has_block b) (get_or-set_same ss i s no_section lt) in
    from_tests (length ss) (set ss i s) tags g (length-set ss i s) t.long
    (released (length ss) (has_in ss) (has_in (set ss i s)) (tag_in tags) f g i x (to_tests ss tags f t) lt
    (λ b. has b ∙ ap (λ c. nat_eq x b || c) (sym (same b)))
    (same x ∙ gone)
    (λ j b a. ap (has_block b) (get_or-set_other ss i j s no_section (λ e. a (sym e))))
    owner)

pub IsTagged-only : (ss : List SectionState) (tags : List ℕ) (f : ℕ → Option ℕ) (i b : ℕ) → IsTagged ss tags f → i < length ss → has_block b (section_in ss i) ≡ true → IsOnlyIn i b ss
IsTagged-only ss tags f i b t lt here = λ j lt' a. only_in (length ss) (has_in ss) (tag_in tags) f (to_tests ss tags f t) i j b lt lt' here a

-- ---- where a block is, by its tag
places_agree : {X Y : Type 0} (p : X → Bool) (q : Y → Bool) (xs : List X) (ys : List Y) (d : X) (e : Y) → length ys ≡ length xs → ((j : ℕ) → j < length xs → p (get_or xs j d) ≡ q (get_or ys j e)) → position_or_len p xs ≡ position_or_len q ys
places_agree p q [] [] d e long same = refl
places_agree p q [] (y ∷ ys) d e long same = absurd (omega arith)
places_agree p q (x ∷ xs) [] d e long same = absurd (omega arith)
places_agree p q (x ∷ xs) (y ∷ ys) d e long same =
    let here : p x ≡ q y = same 0 (omega arith) in
    let rest : position_or_len p xs ≡ position_or_len q ys = places_agree p q xs ys d e (omega arith) (λ j lt. same (suc j) (omega arith)) in
    rw (here, rest) refl

pub position_agrees : {X Y : Type 0} (p : X → Bool) (q : Y → Bool) (xs : List X) (ys : List Y) (d : X) (e : Y) → length ys ≡ length xs → ((j : ℕ) → j < length xs → p (get_or xs j d) ≡ q (get_or ys j e)) → position p xs ≡ position q ys
position_agrees p q xs ys d e long same = rw (long, places_agree p q xs ys d e long same) refl

none_at : {X : Type 0} (p : X → Bool) (xs : List X) (d : X) → ((j : ℕ) → j < length xs → p (get_or xs j d) ≡ false) → position p xs ≡ None
none_at p xs d fails = rw (position_or_len_is p xs (length xs) d (omega arith) fails (λ lt. absurd (omega arith))) (cond-false _ _ _ (le-ltb (length xs) (length xs) (omega arith)))

pub position-tagged : (ss : List SectionState) (tags : List ℕ) (owner : ℕ → Option ℕ) (b t : ℕ) → IsTagged ss tags owner → owner b ≡ Some t → position (λ u. nat_eq u t) tags ≡ position (has_block b) ss
position-tagged ss tags owner b t is own =
    sym (position_agrees (has_block b) (λ u. nat_eq u t) ss tags no_section 0 is.long (λ j lt.
    is.found j b lt ∙ (ap (λ o. is_tag o (tag_in tags j)) own ∙ nat_eq-same t (tag_in tags j))))
  where
    nat_eq-same : (a c : ℕ) → nat_eq a c ≡ nat_eq c a
    nat_eq-same a c = by_test (nat_eq a c) (λ h. h ∙ sym (eq-eqb c a (sym (eqb-true a c h)))) (λ h. h ∙ sym (nat_eq-swap a c h))

pub position-untagged : (ss : List SectionState) (tags : List ℕ) (owner : ℕ → Option ℕ) (b : ℕ) → IsTagged ss tags owner → owner b ≡ None → None ≡ position (has_block b) ss
position-untagged ss tags owner b is none = sym (none_at (has_block b) ss no_section (λ j lt. is.found j b lt ∙ ap (λ o. is_tag o (tag_in tags j)) none))

if_position : {X : Type 0} (p : X → Bool) (xs : List X) (d : X) (P : ℕ → Type 0) → ((i : ℕ) → i < length xs → p (get_or xs i d) ≡ true → P i) → IfSome (position p xs) P
if_position p xs d P each =
    by_test (nat_lt (position_or_len p xs) (length xs))
    (λ h. rw h (each (position_or_len p xs) (ltb-true _ _ h) (passes_at_first p xs d (ltb-true _ _ h))))
    (λ h. rw h tt)

pub only_at-position : (ss : List SectionState) (tags : List ℕ) (owner : ℕ → Option ℕ) (b : ℕ) → IsTagged ss tags owner → IfSome (position (has_block b) ss) (λ i. IsOnlyIn i b ss)
only_at-position ss tags owner b t = if_position (has_block b) ss no_section (λ i. IsOnlyIn i b ss) (λ i lt here. IsTagged-only ss tags owner i b t lt here)

-- one more block gets a tag
pub tag_more : (x b t : ℕ) (any : Bool) (o : Option ℕ) → cond (nat_eq x b) (Some t) (cond any (Some t) o) ≡ cond (any || nat_eq x b) (Some t) o
tag_more x b t any o = both (nat_eq x b) any
  where
    both : (c d : Bool) → cond c (Some t) (cond d (Some t) o) ≡ cond (d || c) (Some t) o
    both true true = refl
    both true false = refl
    both false true = refl
    both false false = refl

-- ---- a section is parted in two, or joined with the next one
fresh_tag : (t : ℕ) (tags : List ℕ) → list_any (nat_eq t) tags ≡ false → (j : ℕ) → j < length tags → nat_eq t (tag_in tags j) ≡ false
fresh_tag t [] none j lt = absurd (omega arith)
fresh_tag t (u ∷ us) none zero lt = (or_parts _ _ none).0
fresh_tag t (u ∷ us) none (suc j) lt = fresh_tag t us (or_parts _ _ none).1 j (omega arith)

-- the old number of the section at j, where one was inserted at i + 1; and the new number of the one at k
abbrev pub before_insert : ℕ → ℕ → ℕ
before_insert i j = cond (nat_lt i j) (j - 1) j

abbrev pub after_insert : ℕ → ℕ → ℕ
after_insert i k = cond (nat_lt i k) (k + 1) k

pub low : (i j : ℕ) (x y : ℕ) → j ≤ i → cond (nat_lt i j) x y ≡ y
low i j x y le = rw (le-ltb i j le) refl

pub high : (i j : ℕ) (x y : ℕ) → i < j → cond (nat_lt i j) x y ≡ x
high i j x y lt = rw (lt-ltb i j lt) refl

before_one : (i j k : ℕ) → (i + 1 ≡ j → ⊥) → (i + 1 ≡ k → ⊥) → before_insert i j ≡ before_insert i k → j ≡ k
before_one i j k a b same =
    elim (cases_lt i j) [
      | inl lt ↦ elim (cases_lt i k) [
        | inl lt' ↦ omega (arith, sym (high i j (j - 1) j lt) ∙ (same ∙ high i k (k - 1) k lt'))
        | inr le ↦ absurd (a (omega (arith, sym (high i j (j - 1) j lt) ∙ (same ∙ low i k (k - 1) k le))))
      ]
      | inr le ↦ elim (cases_lt i k) [
        | inl lt' ↦ absurd (b (omega (arith, sym (low i j (j - 1) j le) ∙ (same ∙ high i k (k - 1) k lt'))))
        | inr le' ↦ sym (low i j (j - 1) j le) ∙ (same ∙ low i k (k - 1) k le')
      ]
    ]

after_one : (i j k : ℕ) → after_insert i j ≡ after_insert i k → j ≡ k
after_one i j k same =
    elim (cases_lt i j) [
      | inl lt ↦ elim (cases_lt i k) [
        | inl lt' ↦ omega (arith, sym (high i j (j + 1) j lt) ∙ (same ∙ high i k (k + 1) k lt'))
        | inr le ↦ absurd (omega (arith, sym (high i j (j + 1) j lt) ∙ (same ∙ low i k (k + 1) k le)))
      ]
      | inr le ↦ elim (cases_lt i k) [
        | inl lt' ↦ absurd (omega (arith, sym (low i j (j + 1) j le) ∙ (same ∙ high i k (k + 1) k lt')))
        | inr le' ↦ sym (low i j (j + 1) j le) ∙ (same ∙ low i k (k + 1) k le')
      ]
    ]

module _ {X : Type 0} where
  pub insert_old : (xs : List X) (i j : ℕ) (x d : X) → i < length xs → (i + 1 ≡ j → ⊥) → get_or (insert xs (i + 1) x) j d ≡ get_or xs (before_insert i j) d
  insert_old xs i j x d within other =
      elim (cases_lt i j) [
        | inl lt ↦
            let P : ℕ → Type 0 = λ k. get_or (insert xs (i + 1) x) k d ≡ get_or xs (before_insert i j) d in
            let back : j - 1 + 1 ≡ j = omega arith in
            subst P back (rw (high i j (j - 1) j lt) (get_or-insert_above xs (i + 1) x d (j - 1) (omega arith) (omega arith)))
        | inr le ↦ rw (low i j (j - 1) j le) (get_or-insert_below xs (i + 1) x d j (omega arith) (omega arith))
      ]

  pub remove_old : (xs : List X) (i j : ℕ) (d : X) → i + 1 < length xs → get_or (remove xs (i + 1)) j d ≡ get_or xs (after_insert i j) d
  remove_old xs i j d within =
      elim (cases_lt i j) [
        | inl lt ↦ rw (high i j (j + 1) j lt) (get_or-remove_above xs (i + 1) d j (omega arith) within)
        | inr le ↦ rw (low i j (j + 1) j le) (get_or-remove_below xs (i + 1) d j (omega arith) within)
      ]

pub IsTagged-part : (ss : List SectionState) (tags : List ℕ) (f g : ℕ → Option ℕ) (i t : ℕ) (u l : SectionState) → IsTagged ss tags f → i < length ss
    → list_any (nat_eq t) tags ≡ false
    → Parts (section_in ss i) u l
    → ComesFrom l (section_in ss i) ss
    → ((b : ℕ) → g b ≡ cond (has_block b l) (Some t) (f b))
    → IsTagged (insert (set ss i u) (i + 1) l) (insert tags (i + 1) t) g
IsTagged-part ss tags f g i t u l old lt fresh parts from owner =
    let xs : List SectionState = set ss i u in
    let long : length xs ≡ length ss = length-set ss i u in
    let long-tags : length tags ≡ length ss = old.long in
    let more : length (insert xs (i + 1) l) ≡ length xs + 1 = length-insert xs (i + 1) l (omega arith) in
    let more-tags : length (insert tags (i + 1) t) ≡ length tags + 1 = length-insert tags (i + 1) t (omega arith) in
    from_tests (length ss + 1) (insert xs (i + 1) l) (insert tags (i + 1) t) g (omega arith) (omega arith)
    (parted (length ss) (length ss + 1) (has_in ss) (has_in (insert xs (i + 1) l)) (tag_in tags) (tag_in (insert tags (i + 1) t)) f g (λ b. has_block b l) (i + 1) t (before_insert i) (after_insert i) (to_tests ss tags f old) (omega arith)
    (λ j lt'. fresh_tag t tags fresh j (omega arith))
    (λ j lt' a. elim (cases_lt i j) [
      | inl above ↦ (let e = high i j (j - 1) j above in omega (arith, e))
      | inr le ↦ (let e = low i j (j - 1) j le in omega (arith, e))
    ])
    (before_one i)
    (λ k lt'. elim (cases_lt i k) [
      | inl above ↦
          let e = high i k (k + 1) k above in
          let f : before_insert i (k + 1) ≡ k = high i (k + 1) (k + 1 - 1) (k + 1) (omega arith) ∙ (let g : k + 1 - 1 ≡ k = omega arith in g) in
          (omega (arith, e), (λ h. omega (arith, e)), ap (before_insert i) e ∙ f)
      | inr le ↦
          let e = low i k (k + 1) k le in
          (omega (arith, e), (λ h. omega (arith, e)), ap (before_insert i) e ∙ low i k (k - 1) k le)
    ])
    (get_or-insert_at tags (i + 1) t 0 (omega arith))
    (λ j lt' a. insert_old tags i j t 0 (omega arith) a)
    (λ b. ap (has_block b) (get_or-insert_at xs (i + 1) l no_section (omega arith)))
    (λ j b lt' a. ap (has_block b) (insert_old xs i j l no_section (omega arith) a) ∙ at_old (before_insert i j) b (inside j lt' a))
    owner)
  where
    inside : (j : ℕ) → j < length ss + 1 → (i + 1 ≡ j → ⊥) → before_insert i j < length ss
    inside j lt' a =
        elim (cases_lt i j) [
          | inl above ↦ (let e = high i j (j - 1) j above in omega (arith, e))
          | inr le ↦ (let e = low i j (j - 1) j le in omega (arith, e))
        ]

    kept : (c : Bool) (d : Bool) → (d ≡ true → c ≡ false) → c ≡ (c && not d)
    kept c true h = h refl ∙ ap (λ z. z && false) (sym (h refl))
    kept true false h = refl
    kept false false h = refl

    at_old : (j b : ℕ) → j < length ss → has_block b (section_in (set ss i u) j) ≡ (has_block b (section_in ss j) && not (has_block b l))
    at_old j b lt' =
        elim (cases_eq i j) [
          | inl e ↦
              let P : ℕ → Type 0 = λ k. has_block b (section_in (set ss i u) k) ≡ (has_block b (section_in ss k) && not (has_block b l)) in
              subst P e (ap (has_block b) (get_or-set_same ss i u no_section lt) ∙ parts b)
          | inr a ↦
              ap (has_block b) (get_or-set_other ss i j u no_section (λ e. a (sym e)))
              ∙ kept (has_block b (section_in ss j)) (has_block b l) (λ h. elim (from b h) [
                | inl here ↦ IsTagged-only ss tags f i b old lt here j lt' a
                | inr absent ↦ absent j lt'
              ])
        ]

pub IsTagged-join : (ss : List SectionState) (tags : List ℕ) (f g : ℕ → Option ℕ) (gone : ℕ → Bool) (i : ℕ) (s : SectionState) → IsTagged ss tags f → i + 1 < length ss
    → Joins (section_in ss i) (section_in ss (i + 1)) gone s
    → ((b : ℕ) → g b ≡ cond (has_block b (section_in ss (i + 1))) (cond (gone b) None (Some (tag_in tags i))) (f b))
    → IsTagged (set (remove ss (i + 1)) i s) (remove tags (i + 1)) g
IsTagged-join ss tags f g gone i s old lt joins owner =
    let xs : List SectionState = remove ss (i + 1) in
    let long : length (set xs i s) ≡ length xs = length-set xs i s in
    let long-tags : length tags ≡ length ss = old.long in
    let less : length xs + 1 ≡ length ss = length-remove ss (i + 1) lt in
    let less-tags : length (remove tags (i + 1)) + 1 ≡ length tags = length-remove tags (i + 1) (omega arith) in
    from_tests (length xs) (set xs i s) (remove tags (i + 1)) g long (omega arith)
    (joined (length ss) (length xs) (has_in ss) (has_in (set xs i s)) (tag_in tags) (tag_in (remove tags (i + 1))) f g gone i (i + 1) (after_insert i) (before_insert i) (to_tests ss tags f old) (omega arith) lt (omega arith) (λ e. omega arith)
    (low i i (i + 1) i (omega arith))
    (λ j lt'. elim (cases_lt i j) [
      | inl above ↦ (let e = high i j (j + 1) j above in (omega (arith, e), (λ h. omega (arith, e))))
      | inr le ↦ (let e = low i j (j + 1) j le in (omega (arith, e), (λ h. omega (arith, e))))
    ])
    (after_one i)
    (λ k lt' a. elim (cases_lt i k) [
      | inl above ↦
          let e = high i k (k - 1) k above in
          let f : after_insert i (k - 1) ≡ k = high i (k - 1) (k - 1 + 1) (k - 1) (omega arith) ∙ (let g : k - 1 + 1 ≡ k = omega arith in g) in
          (omega (arith, e), ap (after_insert i) e ∙ f)
      | inr le ↦
          let e = low i k (k - 1) k le in
          (omega (arith, e), ap (after_insert i) e ∙ low i k (k + 1) k le)
    ])
    (λ j lt'. remove_old tags i j 0 (omega arith))
    (λ b. ap (has_block b) (get_or-set_same xs i s no_section (omega arith)) ∙ joins b)
    (λ j b lt' a. ap (has_block b) (get_or-set_other xs i j s no_section (λ e. a (sym e)) ∙ remove_old ss i j no_section lt))
    owner)

pub there_at-position : (ss : List SectionState) (b : ℕ) → IfSome (position (has_block b) ss) (λ i. i < length ss)
there_at-position ss b = if_position (has_block b) ss no_section (λ i. i < length ss) (λ i lt here. lt)

pub here_at-position : (ss : List SectionState) (b : ℕ) → IfSome (position (has_block b) ss) (λ i. has_block b (section_in ss i) ≡ true)
here_at-position ss b = if_position (has_block b) ss no_section (λ i. has_block b (section_in ss i) ≡ true) (λ i lt here. here)

pub absent_from-position : (ss : List SectionState) (b : ℕ) → IsNone (position (has_block b) ss) → IsAbsent b ss
absent_from-position ss b none j lt =
    by_test (nat_lt (position_or_len (has_block b) ss) (length ss))
    (λ h. let w : IsNone (Some (position_or_len (has_block b) ss)) = rw h at none in absurd (cc))
    (λ h. fails_before_first (has_block b) ss j no_section (omega (arith, ltb-false _ _ h)))

-- where there is no section, nothing is asked of tags
pub IsTagged-nothing : (ss : List SectionState) (tags : List ℕ) (owner : ℕ → Option ℕ) → ss ≡ [] → 0 < length ss → IsTagged ss tags owner
IsTagged-nothing [] tags owner none some = absurd (omega arith)
IsTagged-nothing (s ∷ ss) tags owner none some = absurd (cc)

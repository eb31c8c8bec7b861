-- Which blocks a section has, after a change.
use Rattle.std.proofs.Common.{◌≡◌, ℕ, zero, suc, ◌<◌, List, [], ◌∷◌, refl, ap, ◌∙◌, arith, Bool, true, false, nat_eq, length, get_or}
use Rattle.std.specs.Prelude.{◌||◌, insert, remove}
use Rattle.std.specs.List.{list_any}
use Rattle.rw_blocks.specs.declared.Kind.{Kind}
use Rattle.rw_blocks.specs.declared.Kind.TheVariants.{Device, Virtual}
use Rattle.rw_blocks.specs.Sections.{SectionState, active_of, has_block, has_serial}
use Rattle.rw_blocks.specs.Changes.{section_sealing, section_unsealing}

-- the tests of a disjunction in another order
swap_two : (a b c : Bool) → (a || (b || c)) ≡ (b || (a || c))
swap_two true true c = refl
swap_two true false c = refl
swap_two false true c = refl
swap_two false false c = refl

swap_in : (n a b c : Bool) → (a || (n || (b || c))) ≡ (n || (a || (b || c)))
swap_in n a b c = swap_two a n (b || c)

pub has_block-sealing : (kind : Kind) (x b : ℕ) (s : SectionState) → has_block b (section_sealing kind x s) ≡ (nat_eq x b || has_block b s)
has_block-sealing Device x b s =
    ap (λ c. nat_eq x b || c) (swap_two (nat_eq s.active_virtual b) (nat_eq s.active_device b) (list_any (has_serial b) s.sealed))
has_block-sealing Virtual x b s = swap_two (nat_eq s.active_device b) (nat_eq x b) (nat_eq s.active_virtual b || list_any (has_serial b) s.sealed)

front_then : (f rest v : Bool) → (v || (f || rest)) ≡ (f || (v || rest))
front_then true rest true = refl
front_then true rest false = refl
front_then false rest v = refl

first_out : (kind : Kind) (b d v : ℕ) (es : List (ℕ × Kind)) → 0 < length es → has_block b (record { active_device = d; active_virtual = v; sealed = es })
    ≡ (nat_eq (active_of kind (record { active_device = d; active_virtual = v; sealed = es })) b || has_block b (section_unsealing kind (record { active_device = d; active_virtual = v; sealed = es })))
first_out kind b d v [] some = absurd (omega arith)
first_out Device b d v (e ∷ es) some = ap (λ c. nat_eq d b || c) (front_then (nat_eq e.0 b) (list_any (has_serial b) es) (nat_eq v b))
first_out Virtual b d v (e ∷ es) some = front_last (nat_eq d b) (nat_eq v b) (nat_eq e.0 b) (list_any (has_serial b) es)
  where
    front_last : (a c f rest : Bool) → (a || (c || (f || rest))) ≡ (c || (a || (f || rest)))
    front_last a c f rest = swap_two a c (f || rest)

pub has_block-unsealing : (kind : Kind) (b : ℕ) (s : SectionState) → 0 < length s.sealed → has_block b s ≡ (nat_eq (active_of kind s) b || has_block b (section_unsealing kind s))
has_block-unsealing kind b s some = first_out kind b s.active_device s.active_virtual s.sealed some

any_insert : {X : Type 0} (p : X → Bool) (xs : List X) (i : ℕ) (x : X) → list_any p (insert xs i x) ≡ (p x || list_any p xs)
any_insert p [] zero x = refl
any_insert p [] (suc i) x = refl
any_insert p (y ∷ ys) zero x = refl
any_insert p (y ∷ ys) (suc i) x = ap (λ c. p y || c) (any_insert p ys i x) ∙ swap_two (p y) (p x) (list_any p ys)

any_remove : {X : Type 0} (p : X → Bool) (xs : List X) (i : ℕ) (d : X) → i < length xs → list_any p xs ≡ (p (get_or xs i d) || list_any p (remove xs i))
any_remove p [] i d lt = absurd (omega arith)
any_remove p (y ∷ ys) zero d lt = refl
any_remove p (y ∷ ys) (suc i) d lt = ap (λ c. p y || c) (any_remove p ys i d (omega arith)) ∙ swap_two (p y) (p (get_or ys i d)) (list_any p (remove ys i))

swap_three : (a v x rest : Bool) → (a || (v || (x || rest))) ≡ (x || (a || (v || rest)))
swap_three a v x rest = ap (λ c. a || c) (swap_two v x rest) ∙ swap_two a x (v || rest)

pub has_block-insert : (b : ℕ) (s : SectionState) (i : ℕ) (e : ℕ × Kind) → has_block b (record s { sealed = insert s.sealed i e }) ≡ (nat_eq e.0 b || has_block b s)
has_block-insert b s i e =
    ap (λ c. nat_eq s.active_device b || (nat_eq s.active_virtual b || c)) (any_insert (has_serial b) s.sealed i e)
    ∙ swap_three (nat_eq s.active_device b) (nat_eq s.active_virtual b) (nat_eq e.0 b) (list_any (has_serial b) s.sealed)

pub has_block-remove : (b : ℕ) (s : SectionState) (i : ℕ) (d : ℕ × Kind) → i < length s.sealed → has_block b s ≡ (nat_eq (get_or s.sealed i d).0 b || has_block b (record s { sealed = remove s.sealed i }))
has_block-remove b s i d lt =
    ap (λ c. nat_eq s.active_device b || (nat_eq s.active_virtual b || c)) (any_remove (has_serial b) s.sealed i d lt)
    ∙ swap_three (nat_eq s.active_device b) (nat_eq s.active_virtual b) (nat_eq (get_or s.sealed i d).0 b) (list_any (has_serial b) (remove s.sealed i))

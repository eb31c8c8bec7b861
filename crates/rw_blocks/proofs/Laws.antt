-- Each primitive's mark undoes it.
use Rattle.std.proofs.Common.{◌≡◌, ℕ, zero, suc, ◌+◌, ◌≤◌, ◌<◌, List, [], ◌∷◌, ◌++◌, refl, sym, ap, subst, ◌∙◌, arith, Bool, true, false, length, set, get_or, take, drop, get_or-set_same, set-set, length-set}
use Rattle.std.proofs.lemmas.List.{set-get_or, take-append-drop, drop_at, take_at, length-append}
use Rattle.std.proofs.lemmas.List.Edits.{length-remove, length-insert, get_or-insert_below, get_or-insert_at, get_or-remove_below}
use Rattle.std.specs.Prelude.{Some, None, insert, remove, slice_get}
use Rattle.std.proofs.lemmas.Option.{slice_get-get_or}
use Rattle.rw_blocks.specs.declared.Kind.{Kind}
use Rattle.rw_blocks.specs.declared.Kind.TheVariants.{Device, Virtual}
use Rattle.rw_blocks.specs.declared.Place.{Place}
use Rattle.rw_blocks.specs.declared.Vanished.{Vanished}
use Rattle.rw_blocks.specs.declared.Mark.{Mark}
use Rattle.rw_blocks.specs.declared.Mark.TheVariants.{Add, Remove, Rehome, Replace, Seal, TakeOut, Split, Merge}
use Rattle.rw_blocks.specs.Sections.{SectionState, no_section}
use Rattle.rw_blocks.specs.State.{QueueState, section_at, row_at}
use Rattle.rw_blocks.specs.Loose.{IsLoose}
use Rattle.rw_blocks.specs.Changes.{section_joining, block_unless, upper_of, lower_of, rest_unless, section_unsealing}
use Rattle.rw_blocks.specs.Primitives.{with_row, after_add, after_remove, after_rehome, after_replace, after_seal, after_take_out, after_split, after_merge, empty_actives}
use Rattle.rw_blocks.specs.Undo.{undo_of, seam_of, seam_below, IsJoined, Matches, Undoes}
use Rattle.rw_blocks.proofs.Entries.{lookup-insert_entry, lookup-remove_entry, remove_entry-insert_entry, insert_entry-insert_entry, insert_entry-same, insert_entry-remove_entry}

-- between two loose states a mark that fits and leads back undoes
undoing : (m : Mark) (before after : QueueState) → IsLoose before → IsLoose after → Matches m after → undo_of m after ≡ before → Undoes m before after
undoing m before after loose kept matches back =
    record {
      can = record { loose = kept; matches = matches; before = subst IsLoose (sym back) loose };
      back = back;
    }

pub Undoes-after_add : (q : QueueState) (o z i : ℕ) → IsLoose q → row_at q o ≡ None → IsLoose (after_add q o z i) → Undoes (Add o) q (after_add q o z i)
Undoes-after_add q o z i loose none kept =
    undoing (Add o) q (after_add q o z i) loose kept (rw lookup-insert_entry refl) (ap (λ rs. record q { rows = rs }) (remove_entry-insert_entry q.rows o _ none))

pub Undoes-after_remove : (q : QueueState) (o : ℕ) (r : Place) → IsLoose q → row_at q o ≡ Some r → IsLoose (after_remove q o) → Undoes (Remove o r) q (after_remove q o)
Undoes-after_remove q o r loose is kept =
    undoing (Remove o r) q (after_remove q o) loose kept (lookup-remove_entry q.rows o loose.ordered) (ap (λ rs. record q { rows = rs }) (insert_entry-remove_entry q.rows o r loose.ordered is))

-- two writes at one key, of which the second is what was there
written_back : (q : QueueState) (o : ℕ) (r new : Place) → IsLoose q → row_at q o ≡ Some r → with_row (with_row q o new) o r ≡ q
written_back q o r new loose is =
    ap (λ rs. record q { rows = rs }) (insert_entry-insert_entry q.rows o new r ∙ insert_entry-same q.rows o r loose.ordered is)

pub Undoes-after_rehome : (q : QueueState) (o i : ℕ) (r : Place) → IsLoose q → row_at q o ≡ Some r → IsLoose (after_rehome q o i) → Undoes (Rehome o r.home r.place) q (after_rehome q o i)
Undoes-after_rehome q o i r loose is kept =
    undoing (Rehome o r.home r.place) q (after_rehome q o i) loose kept (rw lookup-insert_entry refl) (rw (lookup-insert_entry, is) (written_back q o r _ loose is))

pub Undoes-after_replace : (q : QueueState) (o i : ℕ) (r : Place) → IsLoose q → row_at q o ≡ Some r → IsLoose (after_replace q o i) → Undoes (Replace o r.place) q (after_replace q o i)
Undoes-after_replace q o i r loose is kept =
    undoing (Replace o r.place) q (after_replace q o i) loose kept (rw lookup-insert_entry refl) (rw (lookup-insert_entry, is) (written_back q o r _ loose is))

same_state : (q : QueueState) (ss : List SectionState) (n : ℕ) → ss ≡ q.sections → n ≡ q.next → record q { sections = ss; next = n } ≡ q
same_state q ss n e f = λ i. record q { sections = e i; next = f i }

set_back : (xs : List SectionState) (i : ℕ) (a : SectionState) (f : SectionState → SectionState) → i < length xs → f a ≡ get_or xs i no_section → set (set xs i a) i (f (get_or (set xs i a) i no_section)) ≡ xs
set_back xs i a f within is = rw (get_or-set_same xs i a no_section within, set-set, is) (set-get_or xs i no_section)

pub Undoes-after_seal : (q : QueueState) (i : ℕ) (kind : Kind) → IsLoose q → i < length q.sections → IsLoose (after_seal q i kind) → Undoes (Seal i kind) q (after_seal q i kind)
Undoes-after_seal q i Device loose within kept =
    undoing (Seal i Device) q (after_seal q i Device) loose kept
    (omega (arith, length-set {A = SectionState}), rw get_or-set_same refl, rw get_or-set_same refl)
    (same_state q _ _ (set_back q.sections i _ (section_unsealing Device) within refl) (omega arith))
Undoes-after_seal q i Virtual loose within kept =
    undoing (Seal i Virtual) q (after_seal q i Virtual) loose kept
    (omega (arith, length-set {A = SectionState}), rw get_or-set_same refl, rw get_or-set_same refl)
    (same_state q _ _ (set_back q.sections i _ (section_unsealing Virtual) within refl) (omega arith))

-- a removed element goes back
insert-remove : {X : Type 0} (xs : List X) (i : ℕ) (x : X) → slice_get xs i ≡ Some x → insert (remove xs i) i x ≡ xs
insert-remove [] i x is = absurd (cc)
insert-remove (y ∷ ys) zero x is = let e : y ≡ x = cc in rw e refl
insert-remove (y ∷ ys) (suc i) x is = ap (λ r. y ∷ r) (insert-remove ys i x is)

remove-insert : {X : Type 0} (xs : List X) (i : ℕ) (x : X) → i ≤ length xs → remove (insert xs i x) i ≡ xs
remove-insert [] zero x within = refl
remove-insert [] (suc i) x within = absurd (omega arith)
remove-insert (y ∷ ys) zero x within = refl
remove-insert (y ∷ ys) (suc i) x within = ap (λ r. y ∷ r) (remove-insert ys i x (omega arith))

pub Undoes-after_take_out : (q : QueueState) (i p b : ℕ) (kind : Kind) → IsLoose q → i < length q.sections → p < length (section_at q i).sealed → slice_get (section_at q i).sealed p ≡ Some (b, kind) → IsLoose (after_take_out q i p) → Undoes (TakeOut i p b kind) q (after_take_out q i p)
Undoes-after_take_out q i p b kind loose within inside is kept =
    undoing (TakeOut i p b kind) q (after_take_out q i p) loose kept
    (omega (arith, length-set {A = SectionState}), rw get_or-set_same (omega (arith, length-remove (section_at q i).sealed p inside)))
    (same_state q _ _ (set_back q.sections i _ (λ s. record s { sealed = insert s.sealed p (b, kind) }) within (ap (λ bs. record (section_at q i) { sealed = bs }) (insert-remove (section_at q i).sealed p (b, kind) is))) refl)

pub Undoes-after_split : (q : QueueState) (i keep : ℕ) → IsLoose q → i < length q.sections → IsLoose (after_split q i keep) → Undoes (Split i) q (after_split q i keep)
Undoes-after_split q i keep loose within kept =
    let upper : SectionState = record (section_at q i) { sealed = take keep (section_at q i).sealed } in
    let lower : SectionState = record { active_device = q.next; active_virtual = q.next + 1; sealed = drop keep (section_at q i).sealed } in
    let xs : List SectionState = set q.sections i upper in
    let long : length xs ≡ length q.sections = length-set q.sections i upper in
    let room : i + 1 ≤ length xs = omega arith in
    let there : get_or (insert xs (i + 1) lower) (i + 1) no_section ≡ lower = get_or-insert_at xs (i + 1) lower no_section room in
    undoing (Split i) q (after_split q i keep) loose kept
    (omega (arith, length-insert xs (i + 1) lower room), rw there refl, rw there (omega arith))
    (rw (get_or-insert_below xs (i + 1) lower no_section i (omega arith) room, get_or-insert_at xs (i + 1) lower no_section room, remove-insert xs (i + 1) lower room)
    (same_state q _ _ (set_back q.sections i upper (λ s. record s { sealed = s.sealed ++ drop keep (section_at q i).sealed }) within (ap (λ bs. record (section_at q i) { sealed = bs }) (take-append-drop keep (section_at q i).sealed))) (omega arith)))

rest_unless-block_unless : (t : Bool) (e : ℕ × Kind) (es : List (ℕ × Kind)) → rest_unless t (block_unless t e ++ es) ≡ es
rest_unless-block_unless true e es = refl
rest_unless-block_unless false e es = refl

lower_of-section_joining : (v : Vanished) (u l : SectionState) → lower_of (seam_of v u l) (section_joining v u l) ≡ l
lower_of-section_joining v u l =
    rw (drop_at u.sealed _ _ refl, rest_unless-block_unless v.device (l.active_device, Device), rest_unless-block_unless v.virtual_block (l.active_virtual, Virtual)) refl

-- a section takes back the one below, which was joined to it
parted : (xs : List SectionState) (i : ℕ) (v : Vanished) (u l : SectionState) → i + 1 < length xs → u ≡ get_or xs i no_section → l ≡ get_or xs (i + 1) no_section
    → insert (set (remove xs (i + 1)) i (upper_of (length u.sealed) (section_joining v u l))) (i + 1) (lower_of (seam_of v u l) (section_joining v u l)) ≡ xs
parted xs i v u l within is-u is-l =
    let long : length (remove xs (i + 1)) + 1 ≡ length xs = length-remove xs (i + 1) within in
    let below : get_or (remove xs (i + 1)) i no_section ≡ u = get_or-remove_below xs (i + 1) no_section i (omega arith) within ∙ sym is-u in
    let lower : slice_get xs (i + 1) ≡ Some l = slice_get-get_or xs (i + 1) no_section within ∙ ap Some (sym is-l) in
    rw (take_at u.sealed _ _ refl, lower_of-section_joining v u l, ← below, set-get_or)
    (insert-remove xs (i + 1) l lower)

-- the two sections of a merge, joined again
joined_again : (v : Vanished) (u l : SectionState) → IsJoined (seam_of v u l) (section_joining v u l)
joined_again v u l =
    ap (section_joining v (upper_of (length u.sealed) (section_joining v u l))) (lower_of-section_joining v u l) ∙ rw (take_at u.sealed _ _ refl) refl

pub Undoes-after_merge : (q : QueueState) (i : ℕ) → IsLoose q → i + 1 < length q.sections → IsLoose (after_merge q i) → Undoes (Merge i (seam_below q i)) q (after_merge q i)
Undoes-after_merge q i loose within kept =
    let l : SectionState = section_at q (i + 1) in
    let u : SectionState = section_at q i in
    let v : Vanished = empty_actives q (i + 1) in
    let xs : List SectionState = remove q.sections (i + 1) in
    let long : length xs + 1 ≡ length q.sections = length-remove q.sections (i + 1) within in
    let room : i < length xs = omega arith in
    let there : get_or (set xs i (section_joining v u l)) i no_section ≡ section_joining v u l = get_or-set_same xs i (section_joining v u l) no_section room in
    undoing (Merge i (seam_below q i)) q (after_merge q i) loose kept (
      omega (arith, length-set {A = SectionState}),
      rw there (omega (arith, length-append u.sealed (block_unless v.device (l.active_device, Device) ++ (block_unless v.virtual_block (l.active_virtual, Virtual) ++ l.sealed)))),
      rw there (joined_again v u l),
    )
    (rw (get_or-set_same xs i (section_joining v u l) no_section room, set-set)
    (ap (λ ss. record q { sections = ss }) (parted q.sections i v u l within refl refl)))

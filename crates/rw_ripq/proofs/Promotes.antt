-- The laws of a promotion.
use Rattle.std.proofs.Common.{◌≡◌, ℕ, ◌+◌, ◌≤◌, ◌<◌, refl, sym, ap, subst, ◌∙◌, arith, Bool, true, false, length, nat_eq, get_or, set, get_or-set_same, inl, inr}
use Rattle.std.specs.Prelude.{Some, None, unwrap_or}
use Rattle.std.specs.Ordering.{nat_cmp}
use Rattle.std.specs.BTreeMap.{insert_entry}
use Rattle.std.proofs.lemmas.Bool.{eq-eqb, ne_eqb, cases_eq}
use Rattle.rw_blocks.proofs.Cited.{IsLoose-after_replace, of_row}
use Rattle.rw_blocks.specs.Loose.{IsLoose, IsSized, count}
use Rattle.rw_blocks.specs.Changes.{section_sealing}
use Rattle.rw_blocks.specs.Primitives.{after_replace}
use Rattle.rw_blocks.specs.Sections.{SectionState, active_of, no_section}
use Rattle.rw_blocks.specs.State.{QueueState, no_place, row_at, row_or, section_at}
use Rattle.rw_blocks.specs.Sums.{bytes_held}
use Rattle.rw_blocks.specs.declared.Kind.TheVariants.{Device, Virtual}
use Rattle.rw_blocks.specs.declared.Place.{Place}
use Rattle.rw_ripq.proofs.Cases.{moved, moved_unless, seal_unless}
use Rattle.rw_ripq.proofs.Basics.{clash, none_some}
use Rattle.rw_ripq.proofs.Behinds.{or-right}
use Rattle.rw_ripq.proofs.Costs.{look-put}
use Rattle.rw_ripq.proofs.Orders.{Kept, kept-cleared, kept-with_room, older, sealed-counts}
use Rattle.rw_ripq.proofs.Reputs.{IsLoose-cleared, IsLoose-with_room, row-with_room, rows-cleared}
use Rattle.rw_ripq.proofs.Rooms.{fits-with_room, rows-with_room, sections-with_room, shape-with_room}
use Rattle.rw_ripq.proofs.Tails.{place-there}
use Rattle.rw_ripq.specs.Laws.{KeepsHome, KeepsOthers}
use Rattle.rw_ripq.specs.Order.{Behind, KeepsOrder}
use Rattle.rw_ripq.specs.Promote.{is_active_in, promote_to}
use Rattle.rw_ripq.specs.Put.{is_room, with_room}

pub kept-order : (old now : QueueState) → ((x c : ℕ) → Behind x c old.sections → Kept x c now) → KeepsOrder old now
kept-order old now kept x y was b now-x now-y =
    elim (kept x y b) [
      | inl g ↦ absurd (omega (arith, g.0, sealed-counts now x now-x))
      | inr m ↦ elim m [
        | inl g ↦ absurd (omega (arith, g.0, sealed-counts now y now-y))
        | inr h ↦ h
      ]
    ]

pub IsLoose-moved : (q : QueueState) (o t : ℕ) (r : Place) → IsLoose q → t < length q.sections → row_at q o ≡ Some r → IsLoose (after_replace (with_room q Virtual t (row_or q o).size) o t)
IsLoose-moved q o t r loose within is =
    let z : ℕ = (row_or q o).size in
    let w : QueueState = with_room q Virtual t z in
    let size : z ≡ r.size = rw is refl in
    let small : r.size ≤ q.shape.block = (of_row q o r (IsSized q) loose.sizes is).1 in
    let fits : bytes_held Virtual w (active_of Virtual (section_at w t)) + z ≤ w.shape.block = rw shape-with_room (fits-with_room q Virtual t z loose within (omega arith)) in
    IsLoose-after_replace w o t r (IsLoose-with_room q Virtual t z loose within) (omega (arith, sections-with_room q Virtual t z)) (row-with_room q Virtual t z o ∙ is) (omega (arith, fits, size))

promote-kept : (b : Bool) (q : QueueState) (o t : ℕ) (r : Place) → IsLoose q → t < length q.sections → row_at q o ≡ Some r → (x c : ℕ) → Behind x c q.sections → Kept x c (moved_unless b q o t)
promote-kept true q o t r loose within is x c h = inr (inr h)
promote-kept false q o t r loose within is x c h =
    kept-cleared (after_replace (with_room q Virtual t (row_or q o).size) o t) (row_or q o).place x c (IsLoose-moved q o t r loose within is) (kept-with_room q Virtual t (row_or q o).size x c within (inr (inr h)))

pub promote-order : (q : QueueState) (o t : ℕ) (r : Place) → IsLoose q → t < length q.sections → row_at q o ≡ Some r → KeepsOrder q (promote_to q o t)
promote-order q o t r loose within is =
    kept-order q (promote_to q o t) (promote-kept (is_active_in q (row_or q o).place t) q o t r loose within is)

pub IsLoose-moved_unless : (b : Bool) (q : QueueState) (o t : ℕ) (r : Place) → IsLoose q → t < length q.sections → row_at q o ≡ Some r → IsLoose (moved_unless b q o t)
IsLoose-moved_unless true q o t r loose within is = loose
IsLoose-moved_unless false q o t r loose within is = IsLoose-cleared _ (row_or q o).place (IsLoose-moved q o t r loose within is)

-- ---- the object keeps its home and its size, and each other row is as it was
abbrev moved_row : QueueState → ℕ → ℕ → Place
moved_row q o t =
    let w = with_room q Virtual t (row_or q o).size in record (row_or w o) { place = active_of Virtual (section_at w t) }

rows-moved : (q : QueueState) (o t : ℕ) → (moved q o t).rows ≡ insert_entry nat_cmp q.rows o (moved_row q o t)
rows-moved q o t =
    let z : ℕ = (row_or q o).size in
    rows-cleared (after_replace (with_room q Virtual t z) o t) (row_or q o).place ∙ ap (λ rs. insert_entry nat_cmp rs o (moved_row q o t)) (rows-with_room q Virtual t z)

home-moved : (b : Bool) (q : QueueState) (o t : ℕ) → KeepsHome q o (moved_unless b q o t)
home-moved true q o t r is = (r, is, refl, refl)
home-moved false q o t r is =
    let old : row_or (with_room q Virtual t (row_or q o).size) o ≡ r = ap (λ m. unwrap_or m no_place) (row-with_room q Virtual t (row_or q o).size o ∙ is) in
    elim (look-put q (moved q o t) o (moved_row q o t) (rows-moved q o t) o) [
      | inl e ↦ (moved_row q o t, e.1, ap (λ (p : Place). p.size) old, ap (λ (p : Place). p.home) old)
      | inr e ↦ absurd (e.0 refl)
    ]

pub promote-home : (q : QueueState) (o t : ℕ) → KeepsHome q o (promote_to q o t)
promote-home q o t = home-moved (is_active_in q (row_or q o).place t) q o t

others-moved : (b : Bool) (q : QueueState) (o t : ℕ) → KeepsOthers q o (moved_unless b q o t)
others-moved true q o t k ne = refl
others-moved false q o t k ne = elim (look-put q (moved q o t) o (moved_row q o t) (rows-moved q o t) k) [
  | inl e ↦ absurd (ne (sym e.0))
  | inr e ↦ e.1
]

pub promote-others : (q : QueueState) (o t : ℕ) → KeepsOthers q o (promote_to q o t)
promote-others q o t = others-moved (is_active_in q (row_or q o).place t) q o t

-- ---- the place changes where it is no active block of the section
fresh-place : (b : Bool) (q : QueueState) (t : ℕ) (p : ℕ) → IsLoose q → t < length q.sections → p < q.next → (p ≡ (section_at q t).active_virtual → ⊥) → active_of Virtual (section_at (seal_unless b q t Virtual) t) ≡ p → ⊥
fresh-place true q t p loose within old apart e = apart (sym e)
fresh-place false q t p loose within old apart e =
    let s : SectionState = section_sealing Virtual q.next (section_at q t) in
    let fresh : active_of Virtual (get_or (set q.sections t s) t no_section) ≡ q.next = ap (active_of Virtual) (get_or-set_same q.sections t s no_section within) in
    omega (arith, old, e, fresh)

place-now : (q q' : QueueState) (o : ℕ) (new : Place) → q'.rows ≡ insert_entry nat_cmp q.rows o new → (row_or q' o).place ≡ new.place
place-now q q' o new rows = elim (look-put q q' o new rows o) [
  | inl e ↦ ap (λ m. (unwrap_or m no_place).place) e.1
  | inr e ↦ absurd (e.0 refl)
]

place-moved : (b : Bool) (q : QueueState) (o t : ℕ) (r : Place) → is_active_in q (row_or q o).place t ≡ b → IsLoose q → t < length q.sections → row_at q o ≡ Some r → nat_eq (row_or (moved_unless b q o t) o).place (row_or q o).place ≡ b
place-moved true q o t r is_active loose within is = eq-eqb _ _ refl
place-moved false q o t r is_active loose within is =
    let p : ℕ = (row_or q o).place in
    let at : p ≡ r.place = ap (λ m. (unwrap_or m no_place).place) is in
    let counted : count Device q r.place + count Virtual q r.place ≡ count Device q p + count Virtual q p = ap (λ n. count Device q n + count Virtual q n) (sym at) in
    let old : p < q.next = older q p loose (omega (arith, counted, place-there q o r loose is)) in
    let apart : p ≡ (section_at q t).active_virtual → ⊥ = λ e. clash (sym (or-right (nat_eq p (section_at q t).active_device) _ (eq-eqb p (section_at q t).active_virtual e)) ∙ is_active) in
    ne_eqb _ _ (λ e. fresh-place (is_room q Virtual t (row_or q o).size) q t p loose within old apart (sym (place-now q (moved q o t) o (moved_row q o t) (rows-moved q o t)) ∙ e))

pub promote-place : (q : QueueState) (o t : ℕ) (r : Place) → IsLoose q → t < length q.sections → row_at q o ≡ Some r → nat_eq (row_or (promote_to q o t) o).place (row_or q o).place ≡ is_active_in q (row_or q o).place t
promote-place q o t r loose within is = place-moved (is_active_in q (row_or q o).place t) q o t r refl loose within is

-- ---- no row leaves
pub promote-stays : (q : QueueState) (o t k : ℕ) (r : Place) → row_at q k ≡ Some r → row_at (promote_to q o t) k ≡ None → ⊥
promote-stays q o t k r is none = elim (cases_eq k o) [
  | inl e ↦ (let h = promote-home q o t r (subst (λ y. row_at q y ≡ Some r) e is) in none_some (sym none ∙ subst (λ y. row_at (promote_to q o t) y ≡ Some h.0) (sym e) h.1))
  | inr ne ↦ none_some (sym none ∙ promote-others q o t k ne ∙ is)
]

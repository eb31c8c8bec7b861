-- The laws of a purge, which takes out the home too, or not.
use Rattle.std.proofs.Common.{◌≡◌, ℕ, ◌≤◌, refl, sym, ap, ◌∙◌, arith, Bool, true, false, length, nat_eq, ◌⊎◌, inl, inr}
use Rattle.std.specs.Prelude.{Some, None}
use Rattle.std.proofs.lemmas.Bool.{and_parts, cases_lt, eq-eqb}
use Rattle.std.specs.Ordering.{nat_cmp}
use Rattle.std.specs.Map.{lookup}
use Rattle.std.specs.BTreeMap.{is_at}
use Rattle.rw_blocks.proofs.Entries.{lookup-remove_entry}
use Rattle.rw_blocks.proofs.Cited.{IsLoose-after_remove, of_row}
use Rattle.rw_blocks.specs.Loose.{IsHomed, IsLoose, count, is_sealed_virtual}
use Rattle.rw_blocks.specs.Primitives.{after_remove}
use Rattle.rw_blocks.specs.Questions.{section_of}
use Rattle.rw_blocks.specs.State.{QueueState, row_at, row_or}
use Rattle.rw_blocks.specs.Sums.{rows_homed, rows_placed}
use Rattle.rw_blocks.specs.declared.Kind.TheVariants.{Device}
use Rattle.rw_blocks.specs.declared.Place.{Place}
use Rattle.rw_ripq.proofs.Abandoned.{abandoned-there, and-both, home-stays, kept-reclaimed, rows-reclaimed}
use Rattle.rw_ripq.proofs.Basics.{clash}
use Rattle.rw_ripq.proofs.Cases.{without_block_if}
use Rattle.rw_ripq.proofs.Leaving.{gone-nowhere, without_block-gone}
use Rattle.rw_ripq.proofs.Lookups.{lookup-remove_other}
use Rattle.rw_ripq.proofs.Orders.{Kept, kept-cleared}
use Rattle.rw_ripq.proofs.Promotes.{kept-order}
use Rattle.rw_ripq.proofs.Reputs.{IsLoose-cleared, rows-cleared}
use Rattle.rw_ripq.proofs.Shapes.{shape-clear}
use Rattle.rw_ripq.specs.Laws.{IsReclaimed, KeepsOthers}
use Rattle.rw_ripq.specs.Order.{KeepsOrder}
use Rattle.rw_ripq.specs.Purge.{purge, purge_by}
use Rattle.rw_ripq.specs.Sealed.{is_abandoned, is_emptied, is_sealed_device, without_block}

pub purge-shape : (q : QueueState) (o : ℕ) → (purge q o).shape ≡ q.shape
purge-shape q o =
    let q1 : QueueState = after_remove q o in
    let p : ℕ = (row_or q o).place in
    shape-clear (is_emptied q1 p) q1 p

pub purge_by-shape : (t : Bool) (q : QueueState) (o : ℕ) → (purge_by t q o).shape ≡ q.shape
purge_by-shape false q o = purge-shape q o
purge_by-shape true q o = shape-clear (is_abandoned (purge q o) (row_or q o).home) (purge q o) (row_or q o).home ∙ purge-shape q o

-- the rows are those of the queue from which the object is removed
rows-purged : (t : Bool) (q : QueueState) (o : ℕ) → (purge_by t q o).rows ≡ (after_remove q o).rows
rows-purged false q o = rows-cleared (after_remove q o) (row_or q o).place
rows-purged true q o = rows-reclaimed (purge q o) (row_or q o).home ∙ rows-cleared (after_remove q o) (row_or q o).place

row-purged : (t : Bool) (q : QueueState) (o k : ℕ) → row_at (purge_by t q o) k ≡ row_at (after_remove q o) k
row-purged t q o k = ap (lookup (is_at (nat_cmp k))) (rows-purged t q o)

pub purge-gone : (t : Bool) (q : QueueState) (o : ℕ) → IsLoose q → row_at (purge_by t q o) o ≡ None
purge-gone t q o loose = row-purged t q o o ∙ lookup-remove_entry q.rows o loose.ordered

pub purge-others : (t : Bool) (q : QueueState) (o : ℕ) → KeepsOthers q o (purge_by t q o)
purge-others t q o k ne = row-purged t q o k ∙ lookup-remove_other q.rows o k (λ e. ne (sym e))

-- no block changes but those that are taken out
kept-removed : (q : QueueState) (o x c : ℕ) → IsLoose q → Kept x c q → Kept x c (purge q o)
kept-removed q o x c loose k = kept-cleared (after_remove q o) (row_or q o).place x c (IsLoose-after_remove q o loose) k

kept-purged : (t : Bool) (q : QueueState) (o x c : ℕ) → IsLoose q → Kept x c q → Kept x c (purge_by t q o)
kept-purged false q o x c loose k = kept-removed q o x c loose k
kept-purged true q o x c loose k =
    kept-reclaimed (purge q o) (row_or q o).home x c (IsLoose-cleared (after_remove q o) (row_or q o).place (IsLoose-after_remove q o loose)) (kept-removed q o x c loose k)

pub purge-order : (t : Bool) (q : QueueState) (o : ℕ) → IsLoose q → KeepsOrder q (purge_by t q o)
purge-order t q o loose = kept-order q (purge_by t q o) (λ x c h. kept-purged t q o x c loose (inr (inr h)))

-- ---- the home that is taken out too
reclaimed-if : (t : Bool) (q : QueueState) (b : ℕ) → is_abandoned q b ≡ t → IsLoose q → is_sealed_device q b ≡ true → (section_of (without_block_if t q b) b ≡ None) ⊎ (1 ≤ length (rows_homed (without_block_if t q b) b))
reclaimed-if true q b is loose there = inl (gone-nowhere (without_block q b) b (without_block-gone q b loose (abandoned-there q b is)))
reclaimed-if false q b is loose there = elim (cases_lt 0 (length (rows_homed q b))) [
  | inl lt ↦ inr (omega (arith, lt))
  | inr le ↦ absurd (clash (sym (and-both (is_sealed_device q b) (nat_eq (length (rows_homed q b)) 0) there (eq-eqb _ 0 (omega (arith, le)))) ∙ is))
]

pub purge-reclaims : (q : QueueState) (o : ℕ) (r : Place) → IsLoose q → row_at q o ≡ Some r → IsReclaimed q (row_or q o).home (purge_by true q o)
purge-reclaims q o r loose is sealed =
    let h : ℕ = (row_or q o).home in
    let p : ℕ = (row_or q o).place in
    let q1 : QueueState = after_remove q o in
    let loose1 : IsLoose q1 = IsLoose-after_remove q o loose in
    let at : r.home ≡ h = rw is refl in
    let home : count Device q h ≡ 1 = ap (count Device q) (sym at) ∙ of_row q o r (IsHomed q) loose.homes is in
    let stays : is_sealed_device (purge q o) h ≡ true =
    home-stays (is_emptied q1 p) q1 p h (λ e. (and_parts (is_sealed_virtual q1 p) (nat_eq (length (rows_placed q1 p)) 0) e).0) loose1 home sealed in
    reclaimed-if (is_abandoned (purge q o) h) (purge q o) h refl (IsLoose-cleared q1 p loose1) stays

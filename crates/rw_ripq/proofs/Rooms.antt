-- After room is made the size fits.
use Rattle.std.proofs.Common.{◌≡◌, ℕ, ◌+◌, ◌≤◌, ◌<◌, List, refl, ap, ◌∙◌, arith, Bool, true, false, length, set, get_or, length-set, get_or-set_same}
use Rattle.std.proofs.lemmas.Bool.{leb-true}
use Rattle.rw_blocks.proofs.Cited.{bytes_held-blocks, bytes_held-nowhere}
use Rattle.rw_blocks.specs.Loose.{IsLoose}
use Rattle.rw_blocks.specs.Changes.{section_sealing}
use Rattle.rw_blocks.specs.Primitives.{after_seal}
use Rattle.rw_blocks.specs.Sections.{SectionState, active_of, no_section}
use Rattle.rw_blocks.specs.State.{QueueState, section_at}
use Rattle.rw_blocks.specs.Sums.{bytes_held}
use Rattle.rw_blocks.specs.declared.Kind.{Kind}
use Rattle.rw_blocks.specs.declared.Kind.TheVariants.{Device, Virtual}
use Rattle.rw_ripq.proofs.Cases.{seal_unless}
use Rattle.rw_ripq.specs.Put.{is_room, with_room}

active-fresh : (K : Kind) (n : ℕ) (s : SectionState) → active_of K (section_sealing K n s) ≡ n
active-fresh Device n s = refl
active-fresh Virtual n s = refl

fits-sealed : (q : QueueState) (K : Kind) (i z : ℕ) → IsLoose q → i < length q.sections → z ≤ q.shape.block → bytes_held K (after_seal q i K) (active_of K (section_at (after_seal q i K) i)) + z ≤ q.shape.block
fits-sealed q K i z loose within small =
    let s : SectionState = section_sealing K q.next (section_at q i) in
    let ss : List SectionState = set q.sections i s in
    let e : active_of K (get_or ss i no_section) ≡ q.next = ap (active_of K) (get_or-set_same q.sections i s no_section within) ∙ active-fresh K q.next (section_at q i) in
    let none : bytes_held K q q.next ≡ 0 = bytes_held-nowhere q K q.next loose (loose.below q.next (omega arith)) in
    rw (e, ← bytes_held-blocks K q ss (q.next + 1) q.next) (omega arith)

fits-if : (b : Bool) (q : QueueState) (K : Kind) (i z : ℕ) → is_room q K i z ≡ b → IsLoose q → i < length q.sections → z ≤ q.shape.block
    → bytes_held K (seal_unless b q i K) (active_of K (section_at (seal_unless b q i K) i)) + z ≤ q.shape.block
fits-if true q K i z e loose within small = leb-true _ _ e
fits-if false q K i z e loose within small = fits-sealed q K i z loose within small

pub fits-with_room : (q : QueueState) (K : Kind) (i z : ℕ) → IsLoose q → i < length q.sections → z ≤ q.shape.block
    → bytes_held K (with_room q K i z) (active_of K (section_at (with_room q K i z) i)) + z ≤ q.shape.block
fits-with_room q K i z loose within small = fits-if (is_room q K i z) q K i z refl loose within small

-- what room leaves as it is
sections-if : (b : Bool) (q : QueueState) (K : Kind) (i : ℕ) → length (seal_unless b q i K).sections ≡ length q.sections
sections-if true q K i = refl
sections-if false q K i = length-set q.sections i (section_sealing K q.next (section_at q i))

rows-if : (b : Bool) (q : QueueState) (K : Kind) (i : ℕ) → ((seal_unless b q i K).rows ≡ q.rows) × ((seal_unless b q i K).shape ≡ q.shape)
rows-if true q K i = (refl, refl)
rows-if false q K i = (refl, refl)

pub sections-with_room : (q : QueueState) (K : Kind) (i z : ℕ) → length (with_room q K i z).sections ≡ length q.sections
sections-with_room q K i z = sections-if (is_room q K i z) q K i

pub rows-with_room : (q : QueueState) (K : Kind) (i z : ℕ) → (with_room q K i z).rows ≡ q.rows
rows-with_room q K i z = (rows-if (is_room q K i z) q K i).0

pub shape-with_room : (q : QueueState) (K : Kind) (i z : ℕ) → (with_room q K i z).shape ≡ q.shape
shape-with_room q K i z = (rows-if (is_room q K i z) q K i).1

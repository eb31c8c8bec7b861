-- The rows of a device victim are put again, one after another.
use Rattle.std.proofs.Common.{◌≡◌, ℕ, ◌+◌, ◌≤◌, ◌<◌, List, [], ◌∷◌, refl, sym, ap, subst, ◌∙◌, arith, Bool, true, false, length, nat_eq, inl, inr}
use Rattle.std.specs.Prelude.{Some, All, ◌&&◌, fold, unwrap_or}
use Rattle.std.specs.Ordering.{nat_cmp}
use Rattle.std.specs.Map.{values_of}
use Rattle.std.proofs.lemmas.Bool.{ne_eqb, eqb-true, and_parts}
use Rattle.std.proofs.lemmas.Map.Views.{All-values-insert_entry}
use Rattle.std.specs.BTreeMap.{insert_entry}
use Rattle.rw_blocks.proofs.Cited.{of_row}
use Rattle.rw_blocks.specs.Loose.{IsLoose, IsPlaced, count, is_sealed_virtual}
use Rattle.rw_blocks.specs.State.{QueueState, no_place, row_at, row_or, section_at}
use Rattle.rw_blocks.specs.Sums.{rows_placed}
use Rattle.rw_blocks.specs.declared.Kind.TheVariants.{Device, Virtual}
use Rattle.rw_blocks.specs.declared.Place.{Place}
use Rattle.rw_ripq.proofs.Cases.{reinserted, reinserted_from, seal_unless, without_block_if}
use Rattle.rw_ripq.proofs.Measures.{displaced-after_rehome, displaced-with_room, sealed-there, sealed-virtual-there}
use Rattle.rw_ripq.proofs.Reputs.{IsLoose-cleared, IsLoose-put_again, IsLoose-with_room, measure-put_again, row-with_room, rows-cleared, sealed_blocks-cleared, section-there}
use Rattle.rw_ripq.proofs.Rooms.{rows-with_room, sections-with_room}
use Rattle.rw_ripq.proofs.Turns.{active-not-sealed, first-there, others-left, sealed_count-after_seal, sealed_count-after_take_out}
use Rattle.rw_ripq.specs.Evict.{displaced_rows, objects_homed, reinsert}
use Rattle.rw_ripq.specs.Put.{is_room, put_again, with_room}
use Rattle.rw_ripq.specs.Sealed.{without_if_emptied, sealed_blocks, sealed_position, sealed_section, section_with}
use Rattle.rw_ripq.specs.Victim.{IsVictim, sealed_count}
use Rattle.rw_ripq.specs.Work.{Work}

abbrev pub measure : QueueState → ℕ
measure q = displaced_rows q + sealed_blocks q

pub sealed_count-if : (t : Bool) (q : QueueState) (i b : ℕ) → i < length q.sections → sealed_count b q ≤ sealed_count b (seal_unless t q i Device)
sealed_count-if true q i b within = omega arith
sealed_count-if false q i b within = sealed_count-after_seal q i Device b within

pub sealed_count-without_block_if : (t : Bool) (q : QueueState) (p b : ℕ) → (t ≡ true → is_sealed_virtual q p ≡ true) → (p ≡ b → ⊥) → sealed_count b (without_block_if t q p) ≡ sealed_count b q
sealed_count-without_block_if true q p b h apart =
    let s = sealed-there q p (sealed-virtual-there q p (h refl)) in
    sealed_count-after_take_out q (sealed_section q p) (sealed_position q p) b s.0 s.1 (λ e. apart (sym s.2 ∙ e))
sealed_count-without_block_if false q p b h apart = refl

pub displaced-cleared : (q : QueueState) (p : ℕ) → displaced_rows (without_if_emptied q p) ≡ displaced_rows q
displaced-cleared q p = ap (λ rs. displaced_rows (record q { rows = rs })) (rows-cleared q p)

pub record Steps (b : ℕ) (q q' : QueueState) (os : List ℕ) : Type 0 where
  pub victim : IsVictim b q'
  pub lower : measure q' ≤ measure q
  pub rest : objects_homed q' b ≡ os

pub reinsert-steps : (q : QueueState) (b o : ℕ) (os : List ℕ) → IsVictim b q → objects_homed q b ≡ o ∷ os → Steps b q (reinserted q o) os
reinsert-steps q b o os v is =
    let f = first-there (λ e. nat_eq e.1.home b) q.rows o os v.loose.ordered is in
    let r : Place = f.0 in
    let row : row_at q o ≡ Some r = f.1 in
    let home : r.home ≡ b = eqb-true r.home b f.2 in
    let away : r.place ≡ b → ⊥ = of_row q o r (λ r. r.place ≡ b → ⊥) v.apart row in
    let apart : r.place ≡ r.home → ⊥ = λ e. away (e ∙ home) in
    let there : count Virtual q r.place ≡ 1 = elim (of_row q o r (IsPlaced q) v.loose.places row) [ inl e ↦ absurd (apart e) | inr c ↦ c ] in
    let is-p : (row_or q o).place ≡ r.place = ap (λ m. (unwrap_or m no_place).place) row in
    let i : ℕ = section_with q r.place in
    let within : i < length q.sections = section-there Virtual q r.place there in
    let z : ℕ = (row_or q o).size in
    let w : QueueState = with_room q Device i z in
    let loose-w : IsLoose w = IsLoose-with_room q Device i z v.loose within in
    let within-w : i < length w.sections = omega (arith, sections-with_room q Device i z) in
    let still : sealed_count b q ≤ sealed_count b w = sealed_count-if (is_room q Device i z) q i b within in
    let d : ℕ = (section_at w i).active_device in
    let fresh : d ≡ b → ⊥ = active-not-sealed w i b loose-w within-w (omega (arith, still, v.sealed)) in
    let new : Place = record { size = (row_or w o).size; home = d; place = d } in
    let q1 : QueueState = put_again q o i in
    let q2 : QueueState = without_if_emptied q1 r.place in
    let kept : sealed_count b q2 ≡ sealed_count b q1 =
    sealed_count-without_block_if (is_sealed_virtual q1 r.place && nat_eq (length (rows_placed q1 r.place)) 0) q1 r.place b
    (λ e. (and_parts (is_sealed_virtual q1 r.place) (nat_eq (length (rows_placed q1 r.place)) 0) e).0) away in
    let apart-w : All (λ r. r.place ≡ b → ⊥) (values_of w.rows) = subst (λ rs. All (λ r. r.place ≡ b → ⊥) (values_of rs)) (sym (rows-with_room q Device i z)) v.apart in
    let apart1 : All (λ r. r.place ≡ b → ⊥) (values_of q1.rows) = All-values-insert_entry nat_cmp o new (λ r. r.place ≡ b → ⊥) w.rows apart-w fresh in
    let is-w : objects_homed w b ≡ o ∷ os = ap (λ rs. objects_homed (record q { rows = rs }) b) (rows-with_room q Device i z) ∙ is in
    let rest1 : objects_homed q1 b ≡ os = others-left (λ e. nat_eq e.1.home b) w.rows o os new loose-w.ordered is-w (ne_eqb d b fresh) in
    subst (λ p. Steps b q (reinserted_from q o p) os) (sym is-p)
    (record {
      victim = record {
        loose = IsLoose-cleared q1 r.place (IsLoose-put_again q o i r v.loose within row);
        sealed = omega (arith, kept, still, v.sealed);
        apart = subst (λ rs. All (λ r. r.place ≡ b → ⊥) (values_of rs)) (sym (rows-cleared q1 r.place)) apart1;
      };
      lower = omega (arith, sealed_blocks-cleared q1 r.place, displaced-cleared q1 r.place, measure-put_again q o i r v.loose within row apart);
      rest = ap (λ rs. objects_homed (record q { rows = rs }) b) (rows-cleared q1 r.place) ∙ rest1;
    })

pub fold-steps : (os : List ℕ) (w : Work) (b : ℕ) → IsVictim b w.queue → objects_homed w.queue b ≡ os → Steps b w.queue (fold reinsert w os).queue []
fold-steps [] w b v is = record { victim = v; lower = omega arith; rest = is }
fold-steps (o ∷ os) w b v is =
    let s = reinsert-steps w.queue b o os v is in
    let t = fold-steps os (reinsert w o) b s.victim s.rest in
    record { victim = t.victim; lower = omega (arith, s.lower, t.lower); rest = t.rest }

-- ---- the row that is put again
pub next-if : (t : Bool) (q : QueueState) (i : ℕ) → (seal_unless t q i Device).next ≤ q.next + 1
next-if true q i = omega arith
next-if false q i = omega arith

next-without_block_if : (t : Bool) (q : QueueState) (b : ℕ) → (without_block_if t q b).next ≡ q.next
next-without_block_if true q b = refl
next-without_block_if false q b = refl

pub record Reput (b : ℕ) (q q' : QueueState) (o : ℕ) (r : Place) : Type 0 where
  pub new : Place
  pub rows : q'.rows ≡ insert_entry nat_cmp q.rows o new
  pub size : new.size ≡ r.size
  pub settled : new.place ≡ new.home
  pub away : new.home ≡ b → ⊥
  pub apart : r.place ≡ r.home → ⊥
  pub next : q'.next ≤ q.next + 1
  pub lower : displaced_rows q' + 1 ≡ displaced_rows q

pub reinsert-row : (q : QueueState) (b o : ℕ) (r : Place) (os : List ℕ) → IsVictim b q → objects_homed q b ≡ o ∷ os → row_at q o ≡ Some r → r.home ≡ b → Reput b q (reinserted q o) o r
reinsert-row q b o r os v is row home =
    let away : r.place ≡ b → ⊥ = of_row q o r (λ r. r.place ≡ b → ⊥) v.apart row in
    let apart : r.place ≡ r.home → ⊥ = λ e. away (e ∙ home) in
    let there : count Virtual q r.place ≡ 1 = elim (of_row q o r (IsPlaced q) v.loose.places row) [ inl e ↦ absurd (apart e) | inr c ↦ c ] in
    let is-p : (row_or q o).place ≡ r.place = ap (λ m. (unwrap_or m no_place).place) row in
    let i : ℕ = section_with q r.place in
    let within : i < length q.sections = section-there Virtual q r.place there in
    let z : ℕ = (row_or q o).size in
    let w : QueueState = with_room q Device i z in
    let loose-w : IsLoose w = IsLoose-with_room q Device i z v.loose within in
    let within-w : i < length w.sections = omega (arith, sections-with_room q Device i z) in
    let still : sealed_count b q ≤ sealed_count b w = sealed_count-if (is_room q Device i z) q i b within in
    let d : ℕ = (section_at w i).active_device in
    let fresh : d ≡ b → ⊥ = active-not-sealed w i b loose-w within-w (omega (arith, still, v.sealed)) in
    let new : Place = record { size = (row_or w o).size; home = d; place = d } in
    let q1 : QueueState = put_again q o i in
    let down : displaced_rows q1 + 1 ≡ displaced_rows w = displaced-after_rehome w o i r loose-w (row-with_room q Device i z o ∙ row) apart in
    let next-q : (without_if_emptied q1 r.place).next ≡ q1.next = next-without_block_if (is_sealed_virtual q1 r.place && nat_eq (length (rows_placed q1 r.place)) 0) q1 r.place in
    let next-w : w.next ≤ q.next + 1 = next-if (is_room q Device i z) q i in
    let next-1 : q1.next ≡ w.next = refl in
    subst (λ p. Reput b q (reinserted_from q o p) o r) (sym is-p)
    (record {
      new = new;
      rows = rows-cleared q1 r.place ∙ ap (λ rs. insert_entry nat_cmp rs o new) (rows-with_room q Device i z);
      size = ap (λ m. (unwrap_or m no_place).size) (row-with_room q Device i z o ∙ row);
      settled = refl;
      away = fresh;
      apart = apart;
      next = omega (arith, next-q, next-w, next-1);
      lower = omega (arith, displaced-cleared q1 r.place, down, displaced-with_room q Device i z);
    })

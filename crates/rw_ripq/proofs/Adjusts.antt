-- What each small step, a merge and a split keep, an insertion keeps.
use Rattle.std.proofs.Common.{◌≡◌, ℕ, ◌+◌, ◌≤◌, ◌<◌, ◌^◌, refl, ap, ◌∙◌, arith, Bool, true, false, length}
use Rattle.std.specs.Prelude.{Option, Some, None, nat_lt}
use Rattle.std.proofs.lemmas.Bool.{ltb-true}
use Rattle.std.specs.Ordering.{nat_cmp}
use Rattle.std.specs.BTreeMap.{insert_entry}
use Rattle.rw_blocks.proofs.Cited.{IsLoose-after_add, IsLoose-after_merge, IsLoose-after_split}
use Rattle.rw_blocks.specs.Loose.{IsLoose}
use Rattle.rw_blocks.specs.Sections.{active_of}
use Rattle.rw_blocks.specs.State.{QueueState, section_at}
use Rattle.rw_blocks.specs.Sums.{bytes_held, total}
use Rattle.rw_blocks.specs.declared.Kind.TheVariants.{Device}
use Rattle.rw_blocks.specs.declared.Place.{Place}
use Rattle.rw_ripq.proofs.Cases.{adjust_unless, split_if}
use Rattle.rw_ripq.proofs.Found.{heavy_section-there, light_pair-there}
use Rattle.rw_ripq.proofs.Reputs.{IsLoose-with_room, row-with_room}
use Rattle.rw_ripq.proofs.Rooms.{fits-with_room, rows-with_room, sections-with_room, shape-with_room}
use Rattle.rw_ripq.proofs.Walks.{KeepsBy, evict-keeps, evict-loose}
use Rattle.rw_ripq.specs.Adjust.{adjust, heavy_section, light_pair, merge, merge_at, merge_once, split, split_at}
use Rattle.rw_ripq.specs.Evict.{evict}
use Rattle.rw_ripq.specs.Insert.{insert_at}
use Rattle.rw_ripq.specs.Record.{IsInsertable}
use Rattle.rw_ripq.specs.Put.{is_room, put_new, with_room}
use Rattle.rw_ripq.specs.Work.{Work, no_tally}

-- ---- merge and split
abbrev pub written : Work → Work
written w = record w { tally = record w.tally { writes = w.tally.writes + 1 } }

-- what is kept by the steps of an eviction, a write's count, a merge and a split
pub record KeepsAll (Good : Work → Type 0) (Half : ℕ → Work → Type 0) : Type 0 where
  pub small : KeepsBy Good Half
  pub writes : (w : Work) → Good w → Good (written w)
  pub merges : (w : Work) (i : ℕ) → IsLoose w.queue → i + 1 < length w.queue.sections → Good w → Good (merge w i)
  pub splits : (w : Work) (i : ℕ) → IsLoose w.queue → i < length w.queue.sections → length w.queue.sections < w.queue.shape.sections → Good w → Good (split w i)

pub record IsGood (Good : Work → Type 0) (w : Work) : Type 0 where
  pub loose : IsLoose w.queue
  pub good : Good w

module _ {Good : Work → Type 0} {Half : ℕ → Work → Type 0} where
  pub evict-good : KeepsBy Good Half → (w : Work) → IsGood Good w → IsGood Good (evict w)
  evict-good keeps w g = record { loose = evict-loose keeps w g.loose g.good; good = evict-keeps keeps w g.loose g.good }

  pub merge_at-good : KeepsAll Good Half → (o : Option ℕ) (w : Work) → light_pair w.queue ≡ o → IsGood Good w → IsGood Good (merge_at o w)
  merge_at-good keeps None w is g = g
  merge_at-good keeps (Some i) w is g =
      let there : i + 1 < length w.queue.sections = light_pair-there w.queue i is in
      evict-good keeps.small (merge w i) (record { loose = IsLoose-after_merge w.queue i g.loose there; good = keeps.merges w i g.loose there g.good })

  split_at-good : KeepsAll Good Half → (o : Option ℕ) (w : Work) → length w.queue.sections < w.queue.shape.sections → heavy_section w.queue ≡ o → IsGood Good w → IsGood Good (split_at o w)
  split_at-good keeps None w few is g = g
  split_at-good keeps (Some i) w few is g =
      let there : i < length w.queue.sections = heavy_section-there w.queue i is in
      record { loose = IsLoose-after_split w.queue i _ g.loose there few; good = keeps.splits w i g.loose there few g.good }

  split_if-good : KeepsAll Good Half → (t : Bool) (w : Work) → nat_lt (length w.queue.sections) w.queue.shape.sections ≡ t → IsGood Good w → IsGood Good (split_if t w)
  split_if-good keeps true w is g = split_at-good keeps (heavy_section w.queue) w (ltb-true _ _ is) refl g
  split_if-good keeps false w is g = g

  pub adjust-good : KeepsAll Good Half → (w : Work) → IsGood Good w → IsGood Good (adjust w)
  adjust-good keeps w g =
      let b : IsGood Good (merge_once (evict w)) = merge_at-good keeps (light_pair (evict w).queue) (evict w) refl (evict-good keeps.small w g) in
      split_if-good keeps (nat_lt (length (merge_once (evict w)).queue.sections) (merge_once (evict w)).queue.shape.sections) (merge_once (evict w)) refl b

  adjust_unless-good : KeepsAll Good Half → (t : Bool) (w : Work) → IsGood Good w → IsGood Good (adjust_unless t w)
  adjust_unless-good keeps true w g = g
  adjust_unless-good keeps false w g = adjust-good keeps (written w) (record { loose = g.loose; good = keeps.writes w g.good })

-- ---- the object that is put
abbrev pub start : QueueState → ℕ → ℕ → ℕ → Work
start q o z i = record { queue = put_new q o z i; tally = no_tally }

-- the row of the object that is put
abbrev pub put_row : QueueState → ℕ → ℕ → Place
put_row w z i = record { size = z; home = (section_at w i).active_device; place = (section_at w i).active_device }

pub rows-put_new : (q : QueueState) (o z i : ℕ) → (put_new q o z i).rows ≡ insert_entry nat_cmp q.rows o (put_row (with_room q Device i z) z i)
rows-put_new q o z i = ap (λ rs. insert_entry nat_cmp rs o (put_row (with_room q Device i z) z i)) (rows-with_room q Device i z)

pub IsLoose-put_new : (q : QueueState) (o z i : ℕ) → IsInsertable q o z → i < length q.sections → IsLoose (put_new q o z i)
IsLoose-put_new q o z i c within =
    let w : QueueState = with_room q Device i z in
    let fits : bytes_held Device w (active_of Device (section_at w i)) + z ≤ w.shape.block = rw shape-with_room (fits-with_room q Device i z c.loose within c.small) in
    let few : total w + z ≤ 2 ^ 48 = rw rows-with_room c.few in
    IsLoose-after_add w o z i (IsLoose-with_room q Device i z c.loose within) (omega (arith, sections-with_room q Device i z)) (row-with_room q Device i z o ∙ c.new) c.some fits few

pub insert-good : {Good : Work → Type 0} {Half : ℕ → Work → Type 0} → KeepsAll Good Half → (q : QueueState) (o z i : ℕ) → IsInsertable q o z → i < length q.sections → Good (start q o z i) → IsGood Good (insert_at q o z i)
insert-good keeps q o z i c within g =
    adjust_unless-good keeps (is_room q Device i z) (start q o z i)
    (record { loose = IsLoose-put_new q o z i c within; good = g })

-- What an eviction keeps of the room for its counts and serials.
use Rattle.std.proofs.Common.{◌≡◌, ℕ, ◌+◌, ◌≤◌, List, ◌∷◌, refl, ap, arith, Bool, true, false}
use Rattle.std.specs.Prelude.{Option, Some, None, not, unwrap_or}
use Rattle.std.specs.Option.{option_map}
use Rattle.std.specs.Ordering.{nat_cmp}
use Rattle.std.specs.BTreeMap.{is_at}
use Rattle.std.specs.Cmp.{nat_cmp_total}
use Rattle.std.proofs.lemmas.Map.Entries.{sum_by-insert_entry, sum_by-remove_entry}
use Rattle.rw_blocks.specs.declared.Place.{Place}
use Rattle.rw_blocks.specs.State.{QueueState, row_at, row_or}
use Rattle.rw_blocks.specs.Sums.{total}
use Rattle.rw_blocks.specs.Loose.{IsLoose, IsSized}
use Rattle.rw_blocks.specs.Primitives.{after_remove}
use Rattle.rw_blocks.proofs.Cited.{IsLoose-after_merge, of_row}
use Rattle.rw_ripq.specs.Sealed.{section_with}
use Rattle.rw_ripq.specs.Work.{Work, one_if}
use Rattle.rw_ripq.specs.Evict.{evict, objects_homed, reinsert}
use Rattle.rw_ripq.specs.Put.{is_room}
use Rattle.rw_blocks.specs.declared.Kind.TheVariants.{Device}
use Rattle.rw_ripq.specs.Victim.{IsVictim}
use Rattle.rw_ripq.specs.Record.{HasHeadroom}
use Rattle.rw_ripq.proofs.Measures.{displaced-after_remove}
use Rattle.rw_ripq.proofs.Folds.{Reput, reinsert-row}
use Rattle.rw_ripq.proofs.Walks.{Keeps, left_one, evict-keeps, throughout}
use Rattle.rw_ripq.proofs.Weights.{IsCount, keeps-count}
use Rattle.rw_ripq.proofs.Found.{light_pair-there}
use Rattle.rw_ripq.specs.Adjust.{merge, merge_at, merge_once, light_pair, is_written}

total-after_remove : (q : QueueState) (o : ℕ) (r : Place) → IsLoose q → row_at q o ≡ Some r → total (after_remove q o) + 1 ≤ total q
total-after_remove q o r loose is =
    let size : unwrap_or (option_map (λ (r : Place). r.size) (row_at q o)) 0 ≡ r.size = ap (λ m. unwrap_or (option_map (λ (r : Place). r.size) m) 0) is in
    omega (arith, sum_by-remove_entry (λ (r : Place). r.size) (is_at (nat_cmp o)) q.rows, size, (of_row q o r (IsSized q) loose.sizes is).0)

total-reinserted : (b : ℕ) (q q' : QueueState) (o : ℕ) (r : Place) → IsLoose q → row_at q o ≡ Some r → Reput b q q' o r → total q' ≤ total q
total-reinserted b q q' o r loose is c =
    let size : unwrap_or (option_map (λ (r : Place). r.size) (row_at q o)) 0 ≡ r.size = ap (λ m. unwrap_or (option_map (λ (r : Place). r.size) m) 0) is in
    let made = sum_by-insert_entry (λ (r : Place). r.size) nat_cmp_total q.rows o c.new loose.ordered in
    rw c.rows (omega (arith, made, size, c.size))

pub room-left : (w : Work) (o : ℕ) (r : Place) → IsLoose w.queue → row_at w.queue o ≡ Some r → HasHeadroom w → HasHeadroom (left_one w o)
room-left w o r loose is g =
    record {
      serials = omega (arith, g.serials, displaced-after_remove w.queue o);
      evicted = omega (arith, g.evicted, total-after_remove w.queue o r loose is);
      reinserted = omega (arith, g.reinserted, displaced-after_remove w.queue o);
      writes = g.writes;
      merges = g.merges;
    }

one_if-top : (t : Bool) → one_if t ≤ 1
one_if-top true = omega arith
one_if-top false = omega arith

pub room-reinserted : (w : Work) (b o : ℕ) (r : Place) (os : List ℕ) → IsVictim b w.queue → objects_homed w.queue b ≡ o ∷ os → row_at w.queue o ≡ Some r → r.home ≡ b → HasHeadroom w → HasHeadroom (reinsert w o)
room-reinserted w b o r os v homed is home g =
    let c = reinsert-row w.queue b o r os v homed is home in
    record {
      serials = omega (arith, g.serials, c.next, c.lower);
      evicted = omega (arith, g.evicted, total-reinserted b w.queue (reinsert w o).queue o r v.loose is c);
      reinserted = omega (arith, g.reinserted, c.lower);
      writes = omega (arith, g.writes, one_if-top (not (is_room w.queue Device (section_with w.queue (row_or w.queue o).place) (row_or w.queue o).size)));
      merges = g.merges;
    }

pub keeps-room : Keeps HasHeadroom
keeps-room =
    record {
      leaves = λ w e o r loose last is at g. room-left w o r loose is g;
      reputs = λ w b o r os v homed is home g. room-reinserted w b o r os v homed is home g;
      outs = λ w b loose some free g. record { serials = g.serials; evicted = g.evicted; reinserted = g.reinserted; writes = g.writes; merges = g.merges };
    }

pub evict-room : (w : Work) → IsLoose w.queue → HasHeadroom w → HasHeadroom (evict w)
evict-room w loose room = evict-keeps (throughout keeps-room) w loose room

-- an eviction merges and splits nothing
pub evict-counts : (w : Work) → IsLoose w.queue → IsCount w.tally.merges w.tally.splits (evict w)
evict-counts w loose = evict-keeps (throughout (keeps-count w.tally.merges w.tally.splits)) w loose (record { merges = refl; splits = refl })

pub merge-room : (w : Work) (i : ℕ) → w.tally.merges ≡ 0 → HasHeadroom w → HasHeadroom (merge w i)
merge-room w i first g =
    record {
      serials = g.serials;
      evicted = g.evicted;
      reinserted = g.reinserted;
      writes = omega (arith, g.writes, one_if-top (is_written w.queue i));
      merges = omega (arith, first);
    }

record Merged (w v : Work) : Type 0 where
  pub room : HasHeadroom v
  pub splits : v.tally.splits ≡ w.tally.splits

merged-at : (o : Option ℕ) (w : Work) → light_pair w.queue ≡ o → IsLoose w.queue → w.tally.merges ≡ 0 → HasHeadroom w → Merged w (merge_at o w)
merged-at None w is loose first g = record { room = g; splits = refl }
merged-at (Some i) w is loose first g =
    let after = IsLoose-after_merge w.queue i loose (light_pair-there w.queue i is) in
    record { room = evict-room (merge w i) after (merge-room w i first g); splits = (evict-counts (merge w i) after).splits }

pub merge_once-room : (w : Work) → IsLoose w.queue → w.tally.merges ≡ 0 → HasHeadroom w → HasHeadroom (merge_once w)
merge_once-room w loose first g = (merged-at (light_pair w.queue) w refl loose first g).room

pub merge_once-splits : (w : Work) → IsLoose w.queue → w.tally.merges ≡ 0 → HasHeadroom w → (merge_once w).tally.splits ≡ w.tally.splits
merge_once-splits w loose first g = (merged-at (light_pair w.queue) w refl loose first g).splits

-- A row goes and comes again.
use Rattle.std.proofs.Common.{◌≡◌, ℕ, ◌+◌, ◌<◌, ◌^◌, sym, ap, ◌∙◌, arith}
use Rattle.std.specs.Prelude.{Some, None}
use Rattle.std.specs.Ordering.{nat_cmp}
use Rattle.std.specs.BTreeMap.{is_at, insert_entry}
use Rattle.std.proofs.lemmas.Map.Entries.{sum_by-remove_entry}
use Rattle.rw_blocks.proofs.Entries.{lookup-remove_entry, insert_entry-insert_entry, insert_entry-remove_entry}
use Rattle.rw_blocks.specs.declared.Place.{Place}
use Rattle.rw_blocks.specs.State.{QueueState, row_at}
use Rattle.rw_blocks.specs.Sums.{total}
use Rattle.rw_blocks.specs.Loose.{IsLoose}
use Rattle.rw_blocks.specs.Primitives.{with_row, after_remove}

pub moved : (q : QueueState) (o : ℕ) (old new : Place) → IsLoose q → row_at q o ≡ Some old → with_row (after_remove q o) o new ≡ with_row q o new
moved q o old new loose is =
    ap (λ rs. record q { rows = rs })
    (sym (insert_entry-insert_entry (after_remove q o).rows o old new)
    ∙ ap (λ es. insert_entry nat_cmp es o new) (insert_entry-remove_entry q.rows o old loose.ordered is))

pub gone-row : (q : QueueState) (o : ℕ) → IsLoose q → row_at (after_remove q o) o ≡ None
gone-row q o loose = lookup-remove_entry q.rows o loose.ordered

pub room-again : (q : QueueState) (o : ℕ) (old : Place) → IsLoose q → row_at q o ≡ Some old → total (after_remove q o) + old.size < 2 ^ 64
room-again q o old loose is =
    let sum = rw is at (sum_by-remove_entry (λ (r : Place). r.size) (is_at (nat_cmp o)) q.rows) in
    omega (arith, sum, loose.within)

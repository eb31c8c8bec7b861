use Rattle.std.proofs.Common.{◌≡◌, ℕ, cond, nat_eq, take}
use Rattle.std.specs.Prelude.{Some}
use Rattle.std.specs.List.{list_any}
use Rattle.std.specs.HashMap.{get}
use Rattle.rw_blocks.specs.Sections.{has_serial}
use Rattle.rw_blocks.proofs.sections.tag_sealed.Given as goal

abbrev pub invariant-loop-position : goal.invariant-loop-position
invariant-loop-position l = (b : ℕ) → get nat_eq l.owners.tags b ≡ cond (list_any (has_serial b) (take l.position l.section.sealed)) (Some l.tag) (get nat_eq l.initial.owners.tags b)

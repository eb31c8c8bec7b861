use Rattle.std.proofs.Common.{◌≡◌, ◌++◌, All, map, take}
use Rattle.std.specs.List.{concat}
use Rattle.rw_sweep.specs.Table.{header_line}
use Rattle.rw_sweep.proofs.joiner.slots.put_together.Given as goal

abbrev pub invariant-loop-place : goal.invariant-loop-place
invariant-loop-place l = record {
  three : All (λ slot. slot.count ≡ 3) (take l.place l.slots);
  told : l.text.items ≡ header_line ++ concat (map (λ slot. slot.text.items) (take l.place l.slots));
}

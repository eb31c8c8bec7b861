use Rattle.std.proofs.Common.{◌≡◌, ◌∷◌, ◌+◌, [], ℕ, List, arith, get_or, length, max, refl, rules, set}
use Rattle.std.proofs.lemmas.List.{length-set}
use Rattle.rw_sweep.specs.Joining.{PlacedLine}
use Rattle.rw_sweep.specs.declared.joiner.slots.Slot.{Slot}
use Rattle.rw_sweep.proofs.Gaining.{gained-then, line-more, three-held}
use Rattle.rw_sweep.proofs.joiner.slots.add.Goals as goal

pub returns : goal.returns
returns c =
    let place : ℕ = c.args.place in
    let line : List ℕ = c.args.line.now in
    let one : PlacedLine = record { place = place; line = line } in
    let mid : List Slot = c.grow.new.slots.items in
    let was : Slot = c.index_mut-slot.result.now in
    let new : Slot = record { count = was.count + 1; text = c.extend_from_slice.new.self } in
    let is : was ≡ get_or mid place was = search rules in
    let old : List Slot = c.args.slots.now.items in
    let there : length mid ≡ max (length old) (place + 1) = c.in_ok-grow.ensures.there in
    let longer : length (set mid place new) ≡ length mid = length-set mid place new in
    record {
      gained = gained-then [] (one ∷ []) old mid (set mid place new) c.in_ok-grow.ensures.gained
          (line-more mid place line was new (omega (arith, there)) is c.if-slot-ge-LINES.false refl c.in_ok-extend_from_slice.ensures.items);
      grown = omega (arith, there, longer);
      fault = tt;
    }

pub returns-then-slot-ge-LINES-clause-fault : goal.returns-then-slot-ge-LINES-clause-fault
returns-then-slot-ge-LINES-clause-fault c =
    let place : ℕ = c.args.place in
    let mid : List Slot = c.grow.new.slots.items in
    let old : List Slot = c.args.slots.now.items in
    let slot : Slot = c.index_mut-slot.result.now in
    let is : slot ≡ get_or mid place slot = search rules in
    let there : length mid ≡ max (length old) (place + 1) = c.in_ok-grow.ensures.there in
    λ real. (refl, three-held old mid place slot c.in_ok-grow.ensures.gained (omega (arith, there)) is c.if-slot-ge-LINES.true)

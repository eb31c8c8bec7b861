use Rattle.std.proofs.Common.{arith, sym, ap, ◌∙◌, ◌≡◌, ◌<◌, ◌+◌, ℕ, List, length, take, get_or, nat_eq}
use Rattle.std.specs.Prelude.{Some, ◌||◌, slice_get}
use Rattle.std.specs.List.{list_any}
use Rattle.std.specs.HashMap.{get}
use Rattle.std.proofs.lemmas.Grind.{common_steps}
use Rattle.std.proofs.lemmas.List.Folds.{list_any_more}
use Rattle.rw_blocks.specs.declared.Kind.{Kind}
use Rattle.rw_blocks.specs.declared.Kind.TheVariants.{Device}
use Rattle.rw_blocks.specs.Sections.{has_serial}
use Rattle.std.proofs.lemmas.Option.{slice_get-get_or}
use Rattle.rw_blocks.proofs.Tagged.{tag_more}
use Rattle.rw_blocks.proofs.sections.tag_sealed.Goals as goal

pub loop-position-preserved : goal.loop-position-preserved
loop-position-preserved c = λ b.
    let sealed : List (ℕ × Kind) = c.args.section.now.sealed in
    let i : ℕ = c.loop-position.position in
    let x : ℕ = c.sealed_at-serial.result.0 in
    let within : i < length sealed = grind (arith, common_steps) in
    let at : slice_get sealed i ≡ Some (get_or sealed i (0, Device)) = slice_get-get_or sealed i (0, Device) within in
    let read : slice_get sealed i ≡ Some c.sealed_at-serial.result = cc in
    let same : Some (get_or sealed i (0, Device)) ≡ Some c.sealed_at-serial.result = sym at ∙ read in
    let is : (get_or sealed i (0, Device)).0 ≡ x = let e : get_or sealed i (0, Device) ≡ c.sealed_at-serial.result = cc in ap (λ (y : ℕ × Kind). y.0) e in
    let more : list_any (has_serial b) (take (i + 1) sealed) ≡ (list_any (has_serial b) (take i sealed) || nat_eq x b) =
    list_any_more (has_serial b) sealed i (0, Device) within ∙ ap (λ (y : ℕ). list_any (has_serial b) (take i sealed) || nat_eq y b) is in
    rw (c.in_ok-insert.ensures.updates b, c.loop-position.invariant b, more)
    (tag_more x b c.args.tag (list_any (has_serial b) (take i sealed)) (get nat_eq c.args.owners.now.tags b))

use Rattle.std.proofs.Common.{rules, List, ℕ, ◌≡◌, ap, ◌∙◌, subst}
use Rattle.std.specs.List.{each_same}
use Rattle.std.specs.List.Sorted.{IsPermutation}
use Rattle.std.proofs.lemmas.Fn.{filter_same}
use Rattle.std.proofs.lemmas.List.Filters.{dedup_is}
use Rattle.rw_blocks.specs.Covering.{key_of, counts, counted}
use Rattle.rw_blocks.proofs.Covering.{objects-sorted}
use Rattle.rw_blocks.proofs.listed.Listed.sorted.Goals as goal

pub returns : goal.returns
returns c =
    let sorted : List ℕ = c.sort_unstable.new.self.items in
    let kept : List ℕ = counted (key_of c.args.role) c.args.serial c.args.rows.now c.args.self.now in
    let copied : c.in_ok-objects.objects.items ≡ c.args.self.now = each_same _ _ c.in_ok-objects.ensures.cases.0 ∙ c.self.view_is in
    let filtered : c.retain.new.self.items ≡ kept = filter_same _ (counts (key_of c.args.role) c.args.serial c.args.rows.now) _ (λ x b f' k. search rules) _ _ c.retain.ensures.filtered ∙ ap (counted (key_of c.args.role) c.args.serial c.args.rows.now) copied in
    let moved : IsPermutation kept sorted = subst (λ (xs : List ℕ). IsPermutation xs sorted) filtered c.sort_unstable.ensures.permutation in
    dedup_is _ _ _ c.dedup.ensures.filtered
    ∙ objects-sorted (key_of c.args.role) c.args.serial c.args.rows.now c.args.self.now sorted c.requires.ordered c.requires.covers moved c.sort_unstable.ensures.sorted

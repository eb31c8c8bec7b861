use Rattle.std.proofs.Common.{rules, List, ℕ, Bool, ◌≡◌, ap, sym, ◌∙◌, subst}
use Rattle.std.specs.Prelude.{filter}
use Rattle.std.specs.List.Sorted.{IsPermutation}
use Rattle.std.proofs.lemmas.Fn.{filter_same}
use Rattle.std.proofs.lemmas.List.Filters.{dedup_is}
use Rattle.rw_blocks.specs.Rows.{row_in}
use Rattle.rw_blocks.specs.Index.{home_of, place_of}
use Rattle.rw_blocks.specs.Covering.{names_block, Covers}
use Rattle.rw_blocks.proofs.Covering.{covers-settled, home-named, place-named}
use Rattle.rw_blocks.proofs.listed.Listed.settle.Goals as goal

pub returns-clause-homes : goal.returns-clause-homes
returns-clause-homes c covers =
    let test : ℕ → Bool = λ o. names_block c.args.serial (row_in c.args.rows.now o) in
    let sorted : List ℕ = c.sort_unstable.new.self.items in
    let filtered : c.retain.new.self.items ≡ filter test c.args.self.now = filter_same _ test _ (λ x b f' k. search rules) _ _ c.retain.ensures.filtered ∙ ap (filter test) c.self.view_is in
    let moved : IsPermutation (filter test c.args.self.now) sorted = subst (λ (xs : List ℕ). IsPermutation xs sorted) filtered c.sort_unstable.ensures.permutation in
    subst (λ (l : List ℕ). Covers home_of c.args.serial l c.args.rows.now) (sym (dedup_is _ _ _ c.dedup.ensures.filtered))
    (covers-settled home_of c.args.serial c.args.rows.now c.args.self.now sorted (names_block c.args.serial) (home-named c.args.serial) moved covers)

pub returns-clause-places : goal.returns-clause-places
returns-clause-places c covers =
    let test : ℕ → Bool = λ o. names_block c.args.serial (row_in c.args.rows.now o) in
    let sorted : List ℕ = c.sort_unstable.new.self.items in
    let filtered : c.retain.new.self.items ≡ filter test c.args.self.now = filter_same _ test _ (λ x b f' k. search rules) _ _ c.retain.ensures.filtered ∙ ap (filter test) c.self.view_is in
    let moved : IsPermutation (filter test c.args.self.now) sorted = subst (λ (xs : List ℕ). IsPermutation xs sorted) filtered c.sort_unstable.ensures.permutation in
    subst (λ (l : List ℕ). Covers place_of c.args.serial l c.args.rows.now) (sym (dedup_is _ _ _ c.dedup.ensures.filtered))
    (covers-settled place_of c.args.serial c.args.rows.now c.args.self.now sorted (names_block c.args.serial) (place-named c.args.serial) moved covers)

use Rattle.std.proofs.Common.{rules, ◌≡◌, List, ℕ, nat_eq, sym, subst, ◌∙◌}
use Rattle.std.proofs.lemmas.Bool.{eqb-true}
use Rattle.rw_blocks.specs.declared.lists.Lists.{Lists}
use Rattle.rw_blocks.specs.Index.{home_of, place_of}
use Rattle.rw_blocks.specs.Covering.{Covers}
use Rattle.rw_blocks.specs.Lists.{list_in}
use Rattle.rw_blocks.proofs.Entries.{by_test}
use Rattle.rw_blocks.proofs.lists.Lists.trim.Goals as goal

pub returns-then-is_wide-clause-homes_list : goal.returns-then-is_wide-clause-homes_list
unfolding list_in
returns-then-is_wide-clause-homes_list c q covers =
    let after : Lists = c.entry_mut.follows.lender (record { bytes = c.in-Some.entry.now.bytes; named = c.in-Some.entry.now.named; objects = c.settle.new.self }) in
    let here : list_in after c.args.serial ≡ c.settle.new.self = search rules in
    let before : list_in c.args.self.now c.args.serial ≡ c.in-Some.entry.now.objects = search rules in
    by_test (nat_eq c.args.serial q)
    (λ h.
    let same : c.args.serial ≡ q = eqb-true c.args.serial q h in
    subst (λ x. Covers home_of x (list_in after x) c.args.rows.now) same
    (subst (λ (l : List ℕ). Covers home_of c.args.serial l c.args.rows.now) (sym here)
    (c.settle.ensures.homes (subst (λ (l : List ℕ). Covers home_of c.args.serial l c.args.rows.now) before
    (subst (λ x. Covers home_of x (list_in c.args.self.now x) c.args.rows.now) (sym same) covers)))))
    (λ h.
    let stays : list_in after q ≡ list_in c.args.self.now q = search rules in
    subst (λ (l : List ℕ). Covers home_of q l c.args.rows.now) (sym stays) covers)

pub returns-then-is_wide-clause-places_list : goal.returns-then-is_wide-clause-places_list
unfolding list_in
returns-then-is_wide-clause-places_list c q covers =
    let after : Lists = c.entry_mut.follows.lender (record { bytes = c.in-Some.entry.now.bytes; named = c.in-Some.entry.now.named; objects = c.settle.new.self }) in
    let here : list_in after c.args.serial ≡ c.settle.new.self = search rules in
    let before : list_in c.args.self.now c.args.serial ≡ c.in-Some.entry.now.objects = search rules in
    by_test (nat_eq c.args.serial q)
    (λ h.
    let same : c.args.serial ≡ q = eqb-true c.args.serial q h in
    subst (λ x. Covers place_of x (list_in after x) c.args.rows.now) same
    (subst (λ (l : List ℕ). Covers place_of c.args.serial l c.args.rows.now) (sym here)
    (c.settle.ensures.places (subst (λ (l : List ℕ). Covers place_of c.args.serial l c.args.rows.now) before
    (subst (λ x. Covers place_of x (list_in c.args.self.now x) c.args.rows.now) (sym same) covers)))))
    (λ h.
    let stays : list_in after q ≡ list_in c.args.self.now q = search rules in
    subst (λ (l : List ℕ). Covers place_of q l c.args.rows.now) (sym stays) covers)

pub returns-else-is_wide-clause-homes_list : goal.returns-else-is_wide-clause-homes_list
unfolding list_in
returns-else-is_wide-clause-homes_list c q covers =
    let after : Lists = c.entry_mut.follows.lender (record { bytes = c.in-Some.entry.now.bytes; named = c.in-Some.entry.now.named; objects = c.in-Some.entry.now.objects }) in
    let here : list_in after c.args.serial ≡ c.in-Some.entry.now.objects = search rules in
    let before : list_in c.args.self.now c.args.serial ≡ c.in-Some.entry.now.objects = search rules in
    let same : list_in after q ≡ list_in c.args.self.now q =
    by_test (nat_eq c.args.serial q)
    (λ h. subst (λ x. list_in after x ≡ list_in c.args.self.now x) (eqb-true c.args.serial q h) (here ∙ sym before))
    (λ h. search rules) in
    subst (λ (l : List ℕ). Covers home_of q l c.args.rows.now) (sym same) covers

pub returns-else-is_wide-clause-places_list : goal.returns-else-is_wide-clause-places_list
unfolding list_in
returns-else-is_wide-clause-places_list c q covers =
    let after : Lists = c.entry_mut.follows.lender (record { bytes = c.in-Some.entry.now.bytes; named = c.in-Some.entry.now.named; objects = c.in-Some.entry.now.objects }) in
    let here : list_in after c.args.serial ≡ c.in-Some.entry.now.objects = search rules in
    let before : list_in c.args.self.now c.args.serial ≡ c.in-Some.entry.now.objects = search rules in
    let same : list_in after q ≡ list_in c.args.self.now q =
    by_test (nat_eq c.args.serial q)
    (λ h. subst (λ x. list_in after x ≡ list_in c.args.self.now x) (eqb-true c.args.serial q h) (here ∙ sym before))
    (λ h. search rules) in
    subst (λ (l : List ℕ). Covers place_of q l c.args.rows.now) (sym same) covers

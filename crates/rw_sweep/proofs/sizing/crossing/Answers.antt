-- The ends of the range: what they are tried with, and that a range of one block count needs no second run.
use Rattle.std.proofs.Common.{false, inl, refl, subst}
use Rattle.rw_sweep.specs.Sizing.{IsTriedAt}
use Rattle.rw_sweep.proofs.Halving.{all-tries, first-try, kept, tried-now}
use Rattle.rw_sweep.proofs.sizing.crossing.Goals as goal

pub returns-then-branch-clause-reached : goal.returns-then-branch-clause-reached
returns-then-branch-clause-reached g c =
    let added = rw c.if-branch.true at c.in_ok-run.ensures.tried in
    record { reached = tried-now _ _ _ _ _ _ added; crossed = inl refl }

pub returns-then-search-clause-none : goal.returns-then-search-clause-none
returns-then-search-clause-none g c =
    let added = rw c.if-branch.false at c.in_ok-run.ensures.tried in
    λ _. subst (λ n. IsTriedAt c.args.search.now c.run.new.tries.items n false) c.if-search.true (tried-now _ _ _ _ _ _ added)

pub returns-then-not-branch-clause-none : goal.returns-then-not-branch-clause-none
returns-then-not-branch-clause-none g c =
    let added = rw c.if-not-branch.true at c.in_ok-run-2.ensures.tried in
    λ _. tried-now _ _ _ _ _ _ added

pub bisect-requires-clause-missed : goal.bisect-requires-clause-missed
bisect-requires-clause-missed g c =
    let added = rw c.if-branch.false at c.in_ok-run.ensures.tried in
    kept _ _ _ _ _ _ _ _ c.in_ok-run-2.ensures.tried (tried-now _ _ _ _ _ _ added)

pub bisect-requires-clause-reached : goal.bisect-requires-clause-reached
bisect-requires-clause-reached g c =
    let added = rw c.if-not-branch.false at c.in_ok-run-2.ensures.tried in
    tried-now _ _ _ _ _ _ added

-- what was tried so far

pub returns-then-branch-clause-tried : goal.returns-then-branch-clause-tried
returns-then-branch-clause-tried g c = first-try _ _ _ _ _ _ c.requires.empty c.in_ok-run.ensures.tried

pub returns-then-search-clause-tried : goal.returns-then-search-clause-tried
returns-then-search-clause-tried g c = first-try _ _ _ _ _ _ c.requires.empty c.in_ok-run.ensures.tried

pub returns-then-not-branch-clause-tried : goal.returns-then-not-branch-clause-tried
returns-then-not-branch-clause-tried g c = all-tries _ _ _ _ _ _ c.in_ok-run-2.ensures.tried (first-try _ _ _ _ _ _ c.requires.empty c.in_ok-run.ensures.tried)

pub bisect-requires-clause-tried : goal.bisect-requires-clause-tried
bisect-requires-clause-tried g c = all-tries _ _ _ _ _ _ c.in_ok-run-2.ensures.tried (first-try _ _ _ _ _ _ c.requires.empty c.in_ok-run.ensures.tried)

use Rattle.std.proofs.Common.{◌≡◌, List, ◌∷◌, [], length, refl, sym, ap, ◌∙◌, subst, arith}
use Rattle.rw_vt.specs.System.{rules}
use Rattle.rw_vt.proofs.Laws.{laws_of}
use Rattle.rw_rounds.specs.Bags.{Every}
use Rattle.rw_rounds.specs.Turns.{owner}
use Rattle.rw_rounds.specs.Working.{role_of, worker_of, IsFitAndSound, Works}
use Rattle.rw_rounds.proofs.Adding.{works_none, works_then, works_beside, works_offered}
use Rattle.rw_rounds.proofs.Fits.{fit_after, fit_without_kept}
use Rattle.rw_rounds.proofs.inner.Inner.offer_kept.Goals as goal

none_left : {A : Type 0} (xs : List A) → length xs ≡ 0 → xs ≡ []
none_left [] h = refl
none_left (x ∷ xs) h = absurd (omega arith)

pub loop-letter-init : goal.loop-letter-init
loop-letter-init g c =
    let laws = laws_of g.met.M.Model g.met.M.Body.Ord.total in
    let x = c.args.self.now in
    let none : c.replace-kept.new.dest.items ≡ [] = ap (λ v. v.items) c.replace-kept.ensures.after ∙ c.new.ensures.items in
    let all : c.into_iter-letter-iterator.result.rest.items ≡ x.kept.items = c.into_iter-letter-iterator.ensures.into_iter_gives.0 ∙ ap (λ v. v.items) c.replace-kept.ensures.value in
    record {
      works =
          subst (λ ls. Works (rules g.M.Model g.M.Body.Ord.cmp c.args.context.now.model.now) (role_of x) (record (worker_of x) { kept = [] }) (record (worker_of x) { kept = c.replace-kept.new.dest.items }) x.kept.items ls 0) (sym all)
          (subst (λ ls. Works (rules g.M.Model g.M.Body.Ord.cmp c.args.context.now.model.now) (role_of x) (record (worker_of x) { kept = [] }) (record (worker_of x) { kept = ls }) x.kept.items x.kept.items 0) (sym none)
          (works_none (rules g.M.Model g.M.Body.Ord.cmp c.args.context.now.model.now) (role_of x) (record (worker_of x) { kept = [] }) x.kept.items refl));
      ready = record {
        worker = subst (λ ls. IsFitAndSound g.M.Model g.M.Body.Ord.cmp c.args.context.now.model.now (record (worker_of x) { kept = ls })) (sym none) (fit_without_kept laws c.args.context.now.model.now (worker_of x) c.requires.ready.worker);
        board = c.requires.ready.board;
      };
      others = subst (Every (λ l. owner (role_of x) l ≡ x.number → ⊥)) (sym all) c.requires.ready.worker.fit.kept;
    }

pub loop-letter-preserved : goal.loop-letter-preserved
loop-letter-preserved g c =
    let laws = laws_of g.met.M.Model g.met.M.Body.Ord.total in
    let x = c.args.self.now in
    let before = c.loop-letter.self in
    let known = c.loop-letter.invariant in
    let letter = c.in-Some.letter in
    let rest = c.next.new.self.rest.items in
    let here : c.loop-letter.letter-iterator.rest.items ≡ letter ∷ rest = c.in-Some.ensures.steps.0 in
    let others = subst (Every (λ l. owner (role_of x) l ≡ x.number → ⊥)) here known.others in
    let posted = c.in_ok-post.ensures.works in
    let beside = works_beside (rules g.M.Model g.M.Body.Ord.cmp c.args.context.now.model.now) (role_of before) (worker_of before) (worker_of c.post.new.self) rest (letter ∷ []) [] 0 posted in
    let one = subst (λ ls. Works (rules g.M.Model g.M.Body.Ord.cmp c.args.context.now.model.now) (role_of before) (worker_of before) (worker_of c.post.new.self) ls rest 0) (sym here) beside in
    record {
      works = works_then (rules g.M.Model g.M.Body.Ord.cmp c.args.context.now.model.now) (role_of x) (record (worker_of x) { kept = [] }) (worker_of before) (worker_of c.post.new.self) x.kept.items c.loop-letter.letter-iterator.rest.items rest 0 0 known.works one;
      ready = record { worker = fit_after laws c.args.context.now.model.now (role_of before) (worker_of before) (worker_of c.post.new.self) (letter ∷ []) [] 0 known.ready.worker posted; board = posted.same_board ∙ known.ready.board };
      others = others.1;
    }

pub returns-clause-works : goal.returns-clause-works
returns-clause-works g c =
    let x = c.args.self.now in
    let known = c.loop-letter.invariant in
    let empty : c.loop-letter.letter-iterator.rest.items ≡ [] = none_left c.loop-letter.letter-iterator.rest.items (omega (arith, c.in-None.ensures.steps.0)) in
    works_offered (rules g.M.Model g.M.Body.Ord.cmp c.args.context.now.model.now) (role_of x) (worker_of x) (worker_of c.loop-letter.self) c.requires.ready.worker.fit.kept (subst (λ ls. Works (rules g.M.Model g.M.Body.Ord.cmp c.args.context.now.model.now) (role_of x) (record (worker_of x) { kept = [] }) (worker_of c.loop-letter.self) x.kept.items ls 0) empty known.works)

pub returns-clause-ready : goal.returns-clause-ready
returns-clause-ready g c = c.loop-letter.invariant.ready

pub post-requires-clause-workers : goal.post-requires-clause-workers
post-requires-clause-workers g c = c.loop-letter.invariant.ready.worker.fit.number

pub post-requires-clause-port : goal.post-requires-clause-port
post-requires-clause-port g c = (c.loop-letter.invariant.ready.worker.fit.port, c.loop-letter.invariant.ready.worker.fit.wide)

pub post-requires-clause-other : goal.post-requires-clause-other
post-requires-clause-other g c =
    let x = c.args.self.now in
    let known = c.loop-letter.invariant in
    let others = subst (Every (λ l. owner (role_of x) l ≡ x.number → ⊥)) c.in-Some.ensures.steps.0 known.others in
    λ e. subst (λ r. owner r c.in-Some.letter ≡ r.number → ⊥) (sym known.works.after) others.0 (sym c.owner-to.ensures.owner ∙ e)

pub post-requires-clause-board : goal.post-requires-clause-board
post-requires-clause-board g c = c.loop-letter.invariant.ready.board

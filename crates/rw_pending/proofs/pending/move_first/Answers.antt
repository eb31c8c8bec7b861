use Rattle.std.proofs.Common.{arith, ◌≡◌, ◌++◌, [], ◌∷◌, ◌∙◌, ap, length, length-append, subst, sym}
use Rattle.std.specs.Option.{option_to_list}
use Rattle.rw_pending.specs.Pending.{HasMovedOn}
use Rattle.rw_pending.proofs.Moving.{moved_none, moved_one_more}
use Rattle.rw_pending.proofs.Waiting.{none_at}
use Rattle.rw_pending.proofs.pending.move_first.Goals as goal

pub loop-missing-init : goal.loop-missing-init
loop-missing-init g c = (moved_none c.args.initial.now c.args.taken.now.items, omega arith)

pub loop-missing-preserved : goal.loop-missing-preserved
loop-missing-preserved g c =
    let so_far = c.loop-missing.taken.items in
    let more = ap length c.in_ok-push.ensures.items ∙ length-append so_far (c.in-Some.event ∷ []) in (
      subst (HasMovedOn c.args.initial.now c.pop.new.self c.args.taken.now.items) (sym c.in_ok-push.ensures.items) (moved_one_more c.in-Some.event c.loop-missing.invariant.0 (subst (λ n. c.loop-missing.initial' ≡ option_to_list n ++ c.pop.new.self) c.in-Some.is c.pop.ensures.taken)),
      omega (arith, more, c.saturating_sub-missing.ensures, c.loop-missing.invariant.1),
    )

pub returns-clause-enough : goal.returns-clause-enough
returns-clause-enough g c = λ fewer. absurd (omega (arith, fewer, c.if-missing-gt0.false, c.loop-missing.invariant.1))

pub returns-in_default-clause-enough : goal.returns-in_default-clause-enough
returns-in_default-clause-enough g c = λ _.
    sym (subst (λ n. c.loop-missing.initial' ≡ option_to_list n ++ c.pop.new.self) c.in_default.is c.pop.ensures.taken) ∙ none_at c.in_default.is c.pop.ensures.none

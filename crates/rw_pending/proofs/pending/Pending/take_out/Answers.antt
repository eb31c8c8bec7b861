use Rattle.std.proofs.Common.{◌++◌, IsPermutation, subst}
use Rattle.rw_pending.proofs.Moving.{taken_enough, taken_out}
use Rattle.rw_pending.proofs.Waiting.{around_none}
use Rattle.rw_pending.proofs.pending.Pending.take_out.Goals as goal

pub returns-clause-parts : goal.returns-clause-parts
returns-clause-parts g c =
    subst (λ w. IsPermutation w.events (c.move_first.new.taken.items ++ (c.move_first.new.initial ++ (c.move_sent.new.now ++ c.move_sent.new.later)))) c.self.view_is
    (taken_out c.self.inside.now c.self.inside.later c.in_ok-taken.ensures.items c.in_ok-move_sent.ensures.moved c.in_ok-move_first.ensures.moved c.in_ok-move_sent.ensures.none)

pub returns-clause-enough : goal.returns-clause-enough
returns-clause-enough g c = taken_enough c.move_first.new.taken.items c.move_sent.new.taken.items c.args.count c.in_ok-move_first.ensures.enough c.in_ok-move_sent.ensures.none

pub invariant_of-self : goal.invariant_of-self
invariant_of-self g c = c.move_sent.ensures.around c.self.inside.time c.self.inside.initial c.self.invariant

pub invariant_of-self-in_err-move_first : goal.invariant_of-self-in_err-move_first
invariant_of-self-in_err-move_first g c =
    let none = c.in_ok-move_sent.ensures.none in
    around_none c.move_first.new.initial c.move_sent.new.now c.move_sent.new.later none.0 none.1

pub invariant_of-self-2 : goal.invariant_of-self-2
invariant_of-self-2 g c =
    let none = c.in_ok-move_sent.ensures.none in
    around_none c.move_first.new.initial c.move_sent.new.now c.move_sent.new.later none.0 none.1

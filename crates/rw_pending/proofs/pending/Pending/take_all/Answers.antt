use Rattle.std.proofs.Common.{◌++◌, IsPermutation, subst}
use Rattle.rw_pending.proofs.Moving.{all_taken}
use Rattle.rw_pending.proofs.Waiting.{around_none}
use Rattle.rw_pending.proofs.pending.Pending.take_all.Goals as goal

pub returns : goal.returns
returns g c =
    let at = c.self.inside in
    subst (λ w. IsPermutation w.events c.move_rest.new.taken.items) c.self.view_is
    (all_taken at.initial (at.now ++ at.later) c.new-taken.ensures.items c.in_ok-move_sent.ensures.moved c.in_ok-move_rest.ensures)

pub invariant_of-self : goal.invariant_of-self
invariant_of-self g c = c.move_sent.ensures.around c.self.inside.time c.self.inside.initial c.self.invariant

pub invariant_of-self-in_err-move_rest : goal.invariant_of-self-in_err-move_rest
invariant_of-self-in_err-move_rest g c =
    let none = c.in_ok-move_sent.ensures.none in
    around_none c.move_rest.new.initial c.move_sent.new.now c.move_sent.new.later none.0 none.1

pub invariant_of-self-2 : goal.invariant_of-self-2
invariant_of-self-2 g c =
    let none = c.in_ok-move_sent.ensures.none in
    around_none c.move_rest.new.initial c.move_sent.new.now c.move_sent.new.later none.0 none.1

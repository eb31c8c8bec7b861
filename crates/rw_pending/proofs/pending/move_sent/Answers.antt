use Rattle.std.proofs.Common.{◌≡◌, ◌++◌, ◌∙◌, IsPermutation, ap, append_assoc, subst}
use Rattle.std.proofs.lemmas.Result.{on_ok_weaker}
use Rattle.rw_pending.proofs.ByTime.{left_same}
use Rattle.rw_pending.proofs.Waiting.{around_lost}
use Rattle.rw_pending.proofs.pending.move_sent.Goals as goal

pub returns-in_err-move_to-clause-around : goal.returns-in_err-move_to-clause-around
returns-in_err-move_to-clause-around g c = λ t initial around. around_lost t initial c.args.now.now c.move_to.new.self c.args.later.now c.args.later.now around c.move_to.ensures.left (left_same c.args.later.now)

pub returns-clause-around : goal.returns-clause-around
returns-clause-around g c = λ t initial around. around_lost t initial c.args.now.now c.move_to.new.self c.args.later.now c.move_to-2.new.self around c.move_to.ensures.left c.move_to-2.ensures.left

pub returns-clause-none : goal.returns-clause-none
returns-clause-none g c = on_ok_weaker c.move_to-2.result (λ none. (c.in_ok-move_to.ensures.none, none)) c.move_to-2.ensures.none

pub returns-clause-moved : goal.returns-clause-moved
returns-clause-moved g c =
    let now = c.args.now.now in
    let later = c.args.later.now in
    let all : c.move_to.new.rest.items ++ later ≡ c.args.taken.now.items ++ (now ++ later) =
    ap (λ l. l ++ later) c.in_ok-move_to.ensures.moved ∙ append_assoc c.args.taken.now.items now later in
    on_ok_weaker c.move_to-2.result (subst (λ l. IsPermutation l c.move_to-2.new.rest.items) all) c.move_to-2.ensures.moved

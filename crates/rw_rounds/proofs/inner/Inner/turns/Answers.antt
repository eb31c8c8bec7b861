use Rattle.std.proofs.Common.{◌≡◌, suc, ◌+◌, refl, sym, subst, arith}
use Rattle.rw_vt.specs.System.{rules}
use Rattle.rw_rounds.specs.Turns.{IsFit, TookTurn, TookTurns}
use Rattle.rw_rounds.specs.Working.{worker_of, with_inbox}
use Rattle.rw_rounds.proofs.Ends.{turns_more}
use Rattle.rw_rounds.proofs.Taking.{turn_taken}
use Rattle.rw_rounds.proofs.inner.Inner.turns.Goals as goal

pub loop-turn-init : goal.loop-turn-init
loop-turn-init g c = record { took = refl; fit = c.requires.fit; ready = c.requires.ready }

pub turn-requires-clause-ready : goal.turn-requires-clause-ready
turn-requires-clause-ready g c = c.loop-turn.invariant.ready

pub turn-requires-clause-fair : goal.turn-requires-clause-fair
turn-requires-clause-fair g c = c.loop-turn.invariant.fit.inbox_fair

pub loop-turn-preserved : goal.loop-turn-preserved
loop-turn-preserved g c =
    let m = c.args.context.now.model.now in
    let y = rules g.M.Model g.M.Body.Ord.cmp m in
    let known = c.loop-turn.invariant in
    let its = c.in_ok-_executed.ensures in
    let n = c.in_ok-_executed._executed in
    let first = with_inbox c.args.self.now c.args.at_hand.now.items in
    let before = with_inbox c.loop-turn.self c.loop-turn.at_hand.items in
    let last = c.turn.new.self in
    let after = with_inbox last c.turn.new.at_hand.items in
    let none = its.works.none_left in
    let taken : TookTurn y before after n = subst (λ ls. TookTurn y before (with_inbox last ls) n) (sym none) (turn_taken y before (worker_of last) n known.fit.inbox_own its.works.works its.within its.held_back) in
    let next : suc c.loop-turn.turn ≡ c.loop-turn.turn + 1 = omega arith in
    record {
      took = subst (λ t. TookTurns y t first after) next (turns_more y c.loop-turn.turn first before after n known.took taken);
      fit = subst (λ ls. IsFit g.M.Model g.M.Body.Ord.cmp m (with_inbox last ls)) (sym none) its.works.can_work.worker.fit;
      ready = its.works.can_work;
    }

pub returns-clause-took : goal.returns-clause-took
returns-clause-took g c =
    let y = rules g.M.Model g.M.Body.Ord.cmp c.args.context.now.model.now in
    let all : c.loop-turn.turn ≡ c.args.turns = omega arith in
    subst (λ t. TookTurns y t (with_inbox c.args.self.now c.args.at_hand.now.items) (with_inbox c.loop-turn.self c.loop-turn.at_hand.items)) all c.loop-turn.invariant.took

pub returns-clause-fit : goal.returns-clause-fit
returns-clause-fit g c = c.loop-turn.invariant.fit

pub returns-clause-board : goal.returns-clause-board
returns-clause-board g c = c.loop-turn.invariant.ready.board

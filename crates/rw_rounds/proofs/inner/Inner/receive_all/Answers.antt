use Rattle.std.proofs.Common.{[]}
use Rattle.rw_rounds.proofs.Dealt.{dealt_none, dealt_then}
use Rattle.rw_rounds.proofs.inner.Inner.receive_all.Goals as goal

pub loop-from-init : goal.loop-from-init
loop-from-init g c = dealt_none g.M.Model g.M.Body.Ord.cmp c.args.context.now c.args.self.now c.args.at_hand.now.items c.requires.ready c.requires.none

pub loop-from-preserved : goal.loop-from-preserved
loop-from-preserved g c =
    dealt_then g.M.Model g.M.Body.Ord.cmp c.args.context.now c.args.self.now c.loop-from.self c.receive_from.new.self [] c.receive_from.new.at_hand.items 0 0
    c.loop-from.invariant.works c.in_ok-receive_from.ensures.works

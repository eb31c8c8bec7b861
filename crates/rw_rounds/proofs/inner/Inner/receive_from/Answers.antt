use Rattle.std.proofs.Common.{[]}
use Rattle.rw_rounds.proofs.Dealt.{dealt_none, dealt_then}
use Rattle.rw_rounds.proofs.inner.Inner.receive_from.Goals as goal

pub loop-init : goal.loop-init
loop-init g c = dealt_none g.M.Model g.M.Body.Ord.cmp c.args.context.now c.args.self.now c.args.at_hand.now.items c.requires.ready c.requires.none

pub loop-preserved : goal.loop-preserved
loop-preserved g c =
    dealt_then g.M.Model g.M.Body.Ord.cmp c.args.context.now c.args.self.now c.loop.self c.receive_one.new.self [] c.receive_one.new.at_hand.items 0 0
    c.loop.invariant.works c.in_ok-found.ensures.works

pub returns-then-not-found : goal.returns-then-not-found
returns-then-not-found g c = record {
  works =
      dealt_then g.M.Model g.M.Body.Ord.cmp c.args.context.now c.args.self.now c.loop.self c.receive_one.new.self [] c.receive_one.new.at_hand.items 0 0
      c.loop.invariant.works c.in_ok-found.ensures.works;
}

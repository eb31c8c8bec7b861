use Rattle.std.proofs.Common.{refl, arith}
use Rattle.rw_vt.proofs.Laws.{laws_of}
use Rattle.rw_world.proofs.Collects.{none_early, made_collect}
use Rattle.rw_world.proofs.parts.Parts.collect.Goals as goal

pub collect_all-requires : goal.collect_all-requires
collect_all-requires g c =
    let laws = laws_of g.met.M.Model g.met.M.Body.Ord.total in
    record { quiet = λ q x at. none_early c.args.self.now c.requires.whole c.args.time laws (omega arith) q x at }

pub returns-clause-made : goal.returns-clause-made
returns-clause-made g c = made_collect c.args.self.now c.requires.whole c.args.time _ refl refl refl refl c.max-self.ensures c.in_ok-collect_all.ensures.collected (omega arith)

use Rattle.std.proofs.Common.{◌≡◌, ◌<◌, ◌++◌, List, length, refl, drop, ap, ◌∙◌, arith}
use Rattle.std.proofs.Math.ListN.{set}
use Rattle.rw_lp.specs.Runs.{AreFilled, values_of}
use Rattle.rw_lp.proofs.Filled.{dropped_front}
use Rattle.rw_lp.proofs.runs.Runs.drop_front.Given.{Over}
use Rattle.rw_lp.proofs.runs.Runs.drop_front.Goals as goal

-- the first of the runs that are left, without its first values
shortened : (g : Over) (c : goal.After-self-in-Some-1 g) → AreFilled (set c.drop_runs-left.new.older.items 0 c.drop_first.new.values) × ((behind : List g.row.T.Denot) → values_of (set c.drop_runs-left.new.older.items 0 c.drop_first.new.values) ++ behind ≡ drop c.args.count (values_of c.self.inside.older.items ++ behind))
shortened g c =
    let runs = c.drop_runs-left.new.older.items in
    let some : 0 < length runs = omega (arith, c.in-Some.ensures.variant.0 refl, c.drop_runs-left.new.older.ok.0) in
    dropped_front c.args.count c.drop_runs-left.result c.self.inside.older.items runs c.in-Some.run'.now c.drop_first.new.values some c.in-Some.ensures.value
    c.drop_runs-left.ensures.filled c.drop_runs-left.ensures.front c.drop_runs-left.ensures.values c.drop_first.ensures

pub invariant_of-self : goal.invariant_of-self
invariant_of-self g c = record { older_filled = (shortened g c).0; last_within = c.self.invariant.last_within }

pub returns-in-Some : goal.returns-in-Some
returns-in-Some g c = (shortened g c).1 c.self.inside.last.items ∙ ap (drop c.args.count) c.self.view_is

use Rattle.std.proofs.Common.{◌≡◌, ◌<◌, ◌-◌, ◌∷◌, length, refl, sym, ap, ◌∙◌, subst, arith}
use Rattle.rw_lp.specs.Runs.{AreFilled, IsLeftAfter}
use Rattle.rw_lp.proofs.Filled.{front_is, left_less}
use Rattle.rw_lp.proofs.runs.drop_runs.Goals as goal

pub runs-preserved-else-left-length : goal.runs-preserved-else-left-length
runs-preserved-else-left-length g c =
    let run = c.in-Some.run'.now in
    let some : 0 < length c.runs.older.items = omega (arith, c.in-Some.ensures.variant.0 refl, c.runs.older.ok.0) in
    let first : c.runs.older.items ≡ run ∷ c.pop_front-run.new.self.items = front_is c.runs.older.items run some c.in-Some.ensures.lookup ∙ ap (λ l. run ∷ l) (sym c.pop_front-run.ensures.rest) in
    let filled : AreFilled (run ∷ c.pop_front-run.new.self.items) = subst AreFilled first c.runs.invariant.filled in
    let left : IsLeftAfter c.args.count c.args.older.now.items c.runs.left (run ∷ c.pop_front-run.new.self.items) = subst (IsLeftAfter c.args.count c.args.older.now.items c.runs.left) first c.runs.invariant.values in
    record {
      filled = filled.2;
      values = left_less c.args.count c.runs.left (c.runs.left - c.len-length.result) c.args.older.now.items c.pop_front-run.new.self.items run left (omega (arith, c.len-length.ensures, run.ok, c.if-left-length.false));
    }

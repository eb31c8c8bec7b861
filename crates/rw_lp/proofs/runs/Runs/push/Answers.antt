use Rattle.std.proofs.Common.{◌≡◌, ◌<◌, ◌≤◌, ◌++◌, ◌∷◌, [], length, sym, ap, ◌∙◌, subst, arith, length-append, append-nil, append_assoc}
use Rattle.std.specs.Global.{Vec}
use Rattle.rw_lp.specs.Limits.{longest_run}
use Rattle.rw_lp.specs.Runs.{AreFilled, values_of}
use Rattle.rw_lp.proofs.Filled.{filled_push, values_push}
use Rattle.rw_lp.proofs.runs.Runs.push.Given.{Over}
use Rattle.rw_lp.proofs.runs.Runs.push.Goals.{then-is_full+in_ok-begun+in_ok-push_back, else-is_full}
use Rattle.rw_lp.proofs.runs.Runs.push.Goals as goal

-- whether or not a run was begun, the last one has room, and the values are the same
roomy : (g : Over) (c : goal.In_ok-push g) → AreFilled c.if-is_full.self-inside.older.items × (length c.if-is_full.self-inside.last.items < longest_run) × (values_of c.if-is_full.self-inside.older.items ++ c.if-is_full.self-inside.last.items ≡ c.args.self.now)
roomy g c =
    elim c.if-is_full.branch [
      | then-is_full+in_ok-begun+in_ok-push_back w ↦
          let old = c.self.inside.older.items in
          let full : w.replace-full.result ≡ c.self.inside.last = w.replace-full.ensures.value in
          let long : longest_run ≤ length c.self.inside.last.items = omega (arith, w.if-is_full.true, c.len-is_full.ensures, c.self.inside.last.ok) in
          let some : 0 < length w.replace-full.result.items = subst (λ (v : Vec g.row.T.Denot). 0 < length v.items) (sym full) (omega arith) in
          let most : length w.replace-full.result.items ≤ longest_run = subst (λ (v : Vec g.row.T.Denot). length v.items ≤ longest_run) (sym full) c.self.invariant.last_within in
          let begun : w.replace-full.new.dest.items ≡ [] = ap (λ (v : Vec g.row.T.Denot). v.items) w.replace-full.ensures.after ∙ w.in_ok-begun.ensures.items in
          let short : length w.replace-full.new.dest.items ≡ 0 = ap length begun in
          let more : w.push_back.new.self.items ≡ old ++ w.replace-full.result ∷ [] = w.in_ok-push_back.ensures.items in
          let same : values_of w.push_back.new.self.items ++ w.replace-full.new.dest.items ≡ c.args.self.now =
          ap (λ l. values_of w.push_back.new.self.items ++ l) begun ∙ append-nil (values_of w.push_back.new.self.items) ∙ ap values_of more ∙ values_push old w.replace-full.result
          ∙ ap (λ (v : Vec g.row.T.Denot). values_of old ++ v.items) full ∙ c.self.view_is in
          rw w.self-inside-is (subst AreFilled (sym more) (filled_push old w.replace-full.result c.self.invariant.older_filled some most), omega arith, same)
      | else-is_full w ↦ rw w.self-inside-is (c.self.invariant.older_filled, omega (arith, w.if-is_full.false, c.len-is_full.ensures, c.self.inside.last.ok), c.self.view_is)
    ]

pub invariant_of-self-2 : goal.invariant_of-self-2
invariant_of-self-2 g c =
    let room = roomy g c in
    let more : length c.push.new.self.items ≡ length (c.if-is_full.self-inside.last.items ++ c.args.value ∷ []) = ap length c.in_ok-push.ensures.items in
    let both = length-append c.if-is_full.self-inside.last.items (c.args.value ∷ []) in
    let within = room.1 in
    record { older_filled = room.0; last_within = omega (arith, more, both, within) }

pub returns : goal.returns
returns g c =
    let room = roomy g c in
    let older = values_of c.if-is_full.self-inside.older.items in
    ap (λ l. older ++ l) c.in_ok-push.ensures.items
    ∙ sym (append_assoc older c.if-is_full.self-inside.last.items (c.args.value ∷ []))
    ∙ ap (λ l. l ++ c.args.value ∷ []) room.2

use Rattle.std.proofs.Common.{◌≡◌, ◌≤◌, false, true, nat_eq, arith}
use Rattle.std.proofs.lemmas.Bool.Decides.{nat_tests}
use Rattle.rw_photo.proofs.Clears.{one-told, none-told}
use Rattle.rw_photo.proofs.photo.Photo.send_clears.Goals as goal
use Rattle.rw_photo.proofs.photo.Photo.send_clears.Goals.{then-to-edge+in_ok-push, else-to-edge}

pub loop-to-preserved : goal.loop-to-preserved
loop-to-preserved c =
    let a = c.args in
    let l = c.loop-to in
    elim c.if-to-edge.branch [
      | then-to-edge+in_ok-push w ↦
          let other : nat_eq l.to a.edge ≡ false = grind (arith, nat_tests, w.if-to-edge.true) in
          let few : l.count ≤ l.to = l.invariant.1 in
          rw (w.out-is, w.count-is)
          (one-told a.process a.first a.time a.object a.edge l.to l.count _ _ _ other l.invariant.0 w.in_ok-push.ensures.items, omega arith)
      | else-to-edge w ↦
          let same : nat_eq l.to a.edge ≡ true = grind (arith, nat_tests, w.if-to-edge.false) in
          let few : l.count ≤ l.to = l.invariant.1 in
          rw (w.out-is, w.count-is)
          (none-told a.process a.first a.time a.object a.edge l.to l.count _ _ same l.invariant.0, omega arith)
    ]

use Rattle.std.proofs.Common.{◌≤◌}
use Rattle.rw_photo.proofs.Clears.{HasTold}
use Rattle.rw_photo.proofs.photo.Photo.send_clears.Given as goal

abbrev pub invariant-loop-to : goal.invariant-loop-to
invariant-loop-to l =
    HasTold l.to l.process l.first l.time l.object l.edge l.count l.initial.out.items l.out.items × (l.count ≤ l.to)

use Rattle.std.proofs.Common.{◌≡◌, ◌++◌, ◌∷◌, [], ℕ, List, true, false, sym, ap, ◌∙◌, map, take}
use Rattle.rw_sweep.specs.declared.point.Point.{Point}
use Rattle.rw_sweep.specs.Parts.{is_in_part}
use Rattle.rw_sweep.specs.Points.{points_of_part, told_at}
use Rattle.rw_sweep.proofs.Dealt.{dealt-in, dealt-out}
use Rattle.rw_sweep.proofs.chosen.points_of_part.Goals as goal
use Rattle.rw_sweep.proofs.chosen.points_of_part.Goals.{then-has+in_ok-push, else-has}

pub loop-place-preserved : goal.loop-place-preserved
loop-place-preserved c =
    let index : ℕ = c.args.part.index in
    let count : ℕ = c.args.part.count in
    let n : ℕ = c.loop-place.place in
    let points : List Point = c.args.points.now in
    let p : Point = c.index-points-place.result in
    let before : List Point = points_of_part index count (take n points) in
    elim c.if-has.branch [
      | then-has+in_ok-push w ↦
          let is : is_in_part index count n ≡ true = sym c.has.ensures ∙ w.if-has.true in
          ap (λ o. o.items) w.own-is ∙ (w.in_ok-push.ensures.items ∙ (ap (λ xs. xs ++ told_at (n, p) ∷ []) c.loop-place.invariant
          ∙ (ap (λ (q : Point). before ++ told_at (n, q) ∷ []) c.index-points-place.is ∙ sym (dealt-in told_at index count n points p c.loop-place-test.true is))))
      | else-has w ↦
          let is : is_in_part index count n ≡ false = sym c.has.ensures ∙ w.if-has.false in
          ap (λ o. o.items) w.own-is ∙ (c.loop-place.invariant ∙ sym (ap (λ ats. map told_at ats) (dealt-out index count n points p c.loop-place-test.true is)))
    ]

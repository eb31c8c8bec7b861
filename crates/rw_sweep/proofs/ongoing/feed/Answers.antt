use Rattle.std.proofs.Common.{◌≡◌, Ok, Err, sym, ◌∙◌, subst}
use Rattle.std.specs.Prelude.{MatchResult}
use Rattle.rw_sweep.specs.Ongoing.{IsFed, TakesPiece}
use Rattle.rw_sweep.proofs.Feeding.{fed-by}
use Rattle.rw_sweep.proofs.ongoing.feed.Goals as goal
use Rattle.rw_sweep.proofs.ongoing.feed.Goals.{in-Ok, in-Err}

pub returns : goal.returns
returns c = elim c.match-recording.branch [
  | in-Ok w ↦
      let is : c.args.run.now.recording ≡ Ok w.in-Ok.recording = sym c.replace-recording.ensures.value ∙ w.in-Ok.is in
      subst (λ r. IsFed c.args.piece.now c.args.run.now (record { point = c.args.run.now.point; recording = r })) (sym w.t-11-is)
      (fed-by c.args.piece.now c.args.run.now w.in-Ok.recording w.feed_in_parts.result is w.feed_in_parts.ensures)
  | in-Err w ↦
      let is : c.args.run.now.recording ≡ Err w.in-Err.refusal = sym c.replace-recording.ensures.value ∙ w.in-Err.is in
      absurd (subst (λ r. MatchResult r (TakesPiece c.args.piece.now) (λ e. ⊥)) is c.requires)
]

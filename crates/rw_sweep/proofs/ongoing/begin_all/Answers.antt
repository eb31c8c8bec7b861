use Rattle.std.proofs.Common.{◌≡◌, ◌∙◌, ◌++◌, ◌∷◌, [], ℕ, List, Ok, ap, sym, map, take, take_all}
use Rattle.std.proofs.lemmas.List.{map-append, take_more}
use Rattle.std.proofs.lemmas.List.Elements.{All-push, All-same}
use Rattle.rw_sweep.specs.declared.ongoing.OngoingRun.{OngoingRun}
use Rattle.rw_sweep.specs.declared.point.Point.{Point}
use Rattle.rw_sweep.specs.Ongoing.{HasNotEnded, IsGoingOn, MarksAt}
use Rattle.rw_sweep.proofs.Feeding.{begun}
use Rattle.rw_sweep.proofs.ongoing.begin_all.Goals as goal

pub loop-point-preserved : goal.loop-point-preserved
loop-point-preserved c =
    let n : ℕ = c.loop-point.point-index in
    let points : List Point = c.args.points.now in
    let runs : List OngoingRun = c.loop-point.runs.items in
    let p : Point = c.point-item.result in
    let at : MarksAt = record { start = c.args.marks.start; every = c.args.marks.every } in
    let g : OngoingRun = record { point = p; recording = Ok c.in_ok-recording.recording } in
    let new = c.in_ok-recording.ensures in
    let going : IsGoingOn at [] g = begun at p c.in_ok-recording.recording new.config new.marks new.time new.none in
    let pushed : c.push.new.self.items ≡ runs ++ g ∷ [] = c.in_ok-push.ensures.items in
    record {
      points = ap (map (λ h. h.point)) pushed ∙ map-append (λ h. h.point) runs (g ∷ []) ∙ ap (λ ps. ps ++ p ∷ []) c.loop-point.invariant.points
          ∙ ap (λ x. take n points ++ x ∷ []) c.point-item.is ∙ sym (take_more points n p c.loop-point-test.true);
      going = All-same (IsGoingOn at []) _ _ pushed (All-push (IsGoingOn at []) runs g c.loop-point.invariant.going going);
      not_ended = All-same HasNotEnded _ _ pushed (All-push HasNotEnded runs g c.loop-point.invariant.not_ended tt);
    }

pub returns-clause-points : goal.returns-clause-points
returns-clause-points c = c.loop-point.invariant.points ∙ take_all c.loop-point.point-index c.args.points.now c.loop-point-test.false

use Rattle.std.proofs.Common.{◌≡◌, ◌++◌, List, Ok, Err}
use Rattle.rw_trace.specs.declared.Row.{Row}
use Rattle.rw_sweep.proofs.Feeding.{ended-on, may-take-part, refused-by, taken-by, taken-last, taken-more, taken-none}
use Rattle.rw_sweep.proofs.Taken.{cut-at}
use Rattle.rw_sweep.proofs.ongoing.feed_in_parts.Goals as goal

pub parts-init : goal.parts-init
parts-init c = record { on = taken-none c.args.piece.now c.args.recording c.requires }

pub feed-requires-clause-rising : goal.feed-requires-clause-rising
feed-requires-clause-rising c =
    let rest : List Row = c.parts.rest.now in
    let part : List Row = c.split_at.result.0.now in
    let more : List Row = c.split_at.result.1.now in
    let cut : rest ≡ part ++ more = cut-at 16384 rest part more c.split_at.ensures.front c.split_at.ensures.back in
    (may-take-part c.args.piece.now c.args.recording c.parts.recording rest part more c.parts.invariant.on cut).rising

pub returns-in_err-recording : goal.returns-in_err-recording
returns-in_err-recording c =
    let rest : List Row = c.parts.rest.now in
    let part : List Row = c.split_at.result.0.now in
    let more : List Row = c.split_at.result.1.now in
    let cut : rest ≡ part ++ more = cut-at 16384 rest part more c.split_at.ensures.front c.split_at.ensures.back in
    let e = c.in_err-recording.field-0.0 in
    refused-by c.from_residual.result e c.from_residual.ensures.1
    (ended-on c.args.piece.now c.args.recording c.parts.recording rest part more c.parts.invariant.on cut e
    (taken-by part c.parts.recording (Err e) tt tt tt tt c.in_err-recording.ensures.exhausted))

pub parts-preserved : goal.parts-preserved
parts-preserved c =
    let rest : List Row = c.parts.rest.now in
    let part : List Row = c.split_at.result.0.now in
    let more : List Row = c.split_at.result.1.now in
    let cut : rest ≡ part ++ more = cut-at 16384 rest part more c.split_at.ensures.front c.split_at.ensures.back in
    let now = c.parts.recording in
    let next = c.in_ok-recording.recording in
    let told = c.in_ok-recording.ensures in
    record {
      on = taken-more c.args.piece.now c.args.recording now rest part more c.parts.invariant.on cut next told.config told.time told.fed
          (taken-by part now (Ok next) told.config told.marks told.time told.fed tt);
    }

pub returns : goal.returns
returns c =
    let told = c.feed-2.ensures in
    taken-last c.args.piece.now c.args.recording c.parts.recording c.parts.rest.now c.feed-2.result c.parts.invariant.on
    (taken-by c.parts.rest.now c.parts.recording c.feed-2.result told.config told.marks told.time told.fed told.exhausted)

use Rattle.std.proofs.Common.{◌≡◌, ◌∙◌, ◌<◌, ◌≤◌, ◌+◌, ◌-◌, ◌^◌, ◌++◌, List, Err, All, ap, arith, drop, length, map, subst, sym, take}
use Rattle.std.specs.List.{Any}
use Rattle.rw_trace.specs.declared.Row.{Row}
use Rattle.rw_trace.specs.Laws.{IsRow}
use Rattle.rw_sweep.specs.declared.ongoing.OngoingRun.{OngoingRun}
use Rattle.rw_sweep.specs.Ongoing.{AreFed, HasNotEnded, HaveTakenAll, MarksAt, MayTake}
use Rattle.rw_sweep.specs.Facts.{facts_of}
use Rattle.rw_sweep.proofs.Gathered.{digest-below}
use Rattle.rw_sweep.proofs.Feeding.{AreBetween, between-more, ended-now, may-count, may-take, points-fed, refused-now, taken-all, written-back}
use Rattle.rw_sweep.proofs.streaming.run_all_streamed.Goals as goal

pub returns-in_err-next_piece-clause-fault : goal.returns-in_err-next_piece-clause-fault
returns-in_err-next_piece-clause-fault g c =
    let at : MarksAt = record { start = c.args.marks.start; every = c.args.marks.every } in
    let from = g.S.RowSource.rest c.args.rows.now in
    let now = g.S.RowSource.rest c.pieces.rows in
    refused-now at c.args.points.now from.edges from.ahead from.most c.requires.edges c.requires.few now.latest now.most now.ahead c.pieces.facts c.pieces.runs.items c.pieces.invariant.between
    c.from_residual-in_err-next_piece.result c.in_err-next_piece.field-0.0 c.from_residual-in_err-next_piece.ensures.1 c.in_err-next_piece.ensures.refused

pub with_rows-facts-requires-clause-few : goal.with_rows-facts-requires-clause-few
with_rows-facts-requires-clause-few g c =
    let at : MarksAt = record { start = c.args.marks.start; every = c.args.marks.every } in
    let from = g.S.RowSource.rest c.args.rows.now in
    let now = g.S.RowSource.rest c.pieces.rows in
    let piece : List Row = c.next_piece.new.piece.items in
    let told = c.in_ok-next_piece.ensures in
    let ranges : All (IsRow from.edges) piece = subst (λ n. All (IsRow n) piece) c.pieces.invariant.edges told.ranges in
    subst (λ ps. c.pieces.facts.rows + length ps ≤ 2 ^ 64 - 1) (sym c.as_slice.ensures.value)
    (may-count at c.args.points.now from.edges from.ahead from.most c.requires.edges c.requires.few now.latest now.most now.ahead c.pieces.facts c.pieces.runs.items c.pieces.invariant.between
    piece (g.S.RowSource.rest c.next_piece.new.source).most ranges told.rising told.most)

pub with_rows-facts-requires-clause-digest : goal.with_rows-facts-requires-clause-digest
with_rows-facts-requires-clause-digest g c = digest-below c.pieces.invariant.between.rows c.pieces.facts c.pieces.invariant.between.facts_are

pub feed_all-requires-clause-may : goal.feed_all-requires-clause-may
feed_all-requires-clause-may g c κs within =
    let at : MarksAt = record { start = c.args.marks.start; every = c.args.marks.every } in
    let from = g.S.RowSource.rest c.args.rows.now in
    let now = g.S.RowSource.rest c.pieces.rows in
    let piece : List Row = c.next_piece.new.piece.items in
    let told = c.in_ok-next_piece.ensures in
    let ranges : All (IsRow from.edges) piece = subst (λ n. All (IsRow n) piece) c.pieces.invariant.edges told.ranges in
    let may : All (MayTake piece) c.pieces.runs.items =
    may-take at c.args.points.now from.edges from.ahead from.most c.requires.edges c.requires.few now.latest now.most now.ahead c.pieces.facts c.pieces.runs.items c.pieces.invariant.between
    piece (g.S.RowSource.rest c.next_piece.new.source).most ranges told.rising told.most in
    subst (λ ps. All (MayTake ps) c.as_mut_slice.result.now) (sym c.as_slice-in-pieces.ensures.value) (subst (All (MayTake piece)) (sym c.as_mut_slice.ensures.value) may)

pub returns-in_err-first_refusal-clause-fault : goal.returns-in_err-first_refusal-clause-fault
returns-in_err-first_refusal-clause-fault g c =
    let at : MarksAt = record { start = c.args.marks.start; every = c.args.marks.every } in
    let from = g.S.RowSource.rest c.args.rows.now in
    let now = g.S.RowSource.rest c.pieces.rows in
    let piece : List Row = c.next_piece.new.piece.items in
    let told = c.in_ok-next_piece.ensures in
    let runs : List OngoingRun = c.pieces.runs.items in
    let new : List OngoingRun = c.feed_all.new.runs in
    let ranges : All (IsRow from.edges) piece = subst (λ n. All (IsRow n) piece) c.pieces.invariant.edges told.ranges in
    let fed : AreFed piece runs new = subst (λ rs. AreFed piece rs new) c.as_mut_slice.ensures.value (subst (λ ps. AreFed ps c.as_mut_slice.result.now new) c.as_slice-in-pieces.ensures.value c.feed_all.ensures) in
    let back : take c.pieces.runs.len (new ++ drop (length new) runs) ≡ new = written-back c.pieces.runs.len new runs fed.many (omega (arith, c.pieces.runs.ok.0)) in
    let e = c.in_err-first_refusal.field-0.0 in
    ended-now at c.args.points.now from.edges from.ahead from.most c.requires.edges c.requires.few now.latest now.most now.ahead c.pieces.facts runs c.pieces.invariant.between
    piece (g.S.RowSource.rest c.next_piece.new.source).most ranges told.rising told.most new fed c.from_residual-in_err-first_refusal.result c.in_err-first_refusal.field-0.0 (g.S.RowSource.rest c.next_piece.new.source).ahead 262144 c.from_residual-in_err-first_refusal.ensures.1
    (subst (Any (λ h. h.recording ≡ Err c.in_err-first_refusal.field-0.0)) (c.as_slice-in-pieces-2.ensures.value ∙ back) c.in_err-first_refusal.ensures.ended) told.few told.first told.all

pub returns-then-len-lt-PIECE-clause-points : goal.returns-then-len-lt-PIECE-clause-points
returns-then-len-lt-PIECE-clause-points g c =
    let at : MarksAt = record { start = c.args.marks.start; every = c.args.marks.every } in
    let from = g.S.RowSource.rest c.args.rows.now in
    let now = g.S.RowSource.rest c.pieces.rows in
    let piece : List Row = c.next_piece.new.piece.items in
    let told = c.in_ok-next_piece.ensures in
    let runs : List OngoingRun = c.pieces.runs.items in
    let new : List OngoingRun = c.feed_all.new.runs in
    let ranges : All (IsRow from.edges) piece = subst (λ n. All (IsRow n) piece) c.pieces.invariant.edges told.ranges in
    let fed : AreFed piece runs new = subst (λ rs. AreFed piece rs new) c.as_mut_slice.ensures.value (subst (λ ps. AreFed ps c.as_mut_slice.result.now new) c.as_slice-in-pieces.ensures.value c.feed_all.ensures) in
    let back : take c.pieces.runs.len (new ++ drop (length new) runs) ≡ new = written-back c.pieces.runs.len new runs fed.many (omega (arith, c.pieces.runs.ok.0)) in
    ap (map (λ h. h.point)) back ∙
    points-fed at c.args.points.now from.edges from.ahead from.most c.requires.edges c.requires.few now.latest now.most now.ahead c.pieces.facts runs c.pieces.invariant.between
    piece (g.S.RowSource.rest c.next_piece.new.source).most ranges told.rising told.most new fed

pub returns-then-len-lt-PIECE-clause-taken : goal.returns-then-len-lt-PIECE-clause-taken
returns-then-len-lt-PIECE-clause-taken g c =
    let at : MarksAt = record { start = c.args.marks.start; every = c.args.marks.every } in
    let from = g.S.RowSource.rest c.args.rows.now in
    let now = g.S.RowSource.rest c.pieces.rows in
    let piece : List Row = c.next_piece.new.piece.items in
    let told = c.in_ok-next_piece.ensures in
    let runs : List OngoingRun = c.pieces.runs.items in
    let new : List OngoingRun = c.feed_all.new.runs in
    let ranges : All (IsRow from.edges) piece = subst (λ n. All (IsRow n) piece) c.pieces.invariant.edges told.ranges in
    let fed : AreFed piece runs new = subst (λ rs. AreFed piece rs new) c.as_mut_slice.ensures.value (subst (λ ps. AreFed ps c.as_mut_slice.result.now new) c.as_slice-in-pieces.ensures.value c.feed_all.ensures) in
    let back : take c.pieces.runs.len (new ++ drop (length new) runs) ≡ new = written-back c.pieces.runs.len new runs fed.many (omega (arith, c.pieces.runs.ok.0)) in
    let short : length piece < 262144 = omega (arith, c.if-len-lt-PIECE.true, c.len.ensures, c.next_piece.new.piece.ok.0) in
    let not_ended : All HasNotEnded new = subst (All HasNotEnded) (c.as_slice-in-pieces-2.ensures.value ∙ back) c.in_ok-first_refusal.ensures.not_ended in
    subst (HaveTakenAll at from.edges from.ahead c.with_rows-facts.result) (sym back)
    (taken-all at c.args.points.now from.edges from.ahead from.most c.requires.edges c.requires.few now.latest now.most now.ahead c.pieces.facts runs c.pieces.invariant.between
    piece (g.S.RowSource.rest c.next_piece.new.source).most ranges told.rising told.most new fed c.with_rows-facts.result (λ before is. c.with_rows-facts.ensures before is ∙ ap (λ ps. facts_of (before ++ ps)) c.as_slice.ensures.value) (told.all short) not_ended)

pub pieces-preserved : goal.pieces-preserved
pieces-preserved g c =
    let at : MarksAt = record { start = c.args.marks.start; every = c.args.marks.every } in
    let from = g.S.RowSource.rest c.args.rows.now in
    let now = g.S.RowSource.rest c.pieces.rows in
    let next = g.S.RowSource.rest c.next_piece.new.source in
    let piece : List Row = c.next_piece.new.piece.items in
    let told = c.in_ok-next_piece.ensures in
    let runs : List OngoingRun = c.pieces.runs.items in
    let new : List OngoingRun = c.feed_all.new.runs in
    let ranges : All (IsRow from.edges) piece = subst (λ n. All (IsRow n) piece) c.pieces.invariant.edges told.ranges in
    let fed : AreFed piece runs new = subst (λ rs. AreFed piece rs new) c.as_mut_slice.ensures.value (subst (λ ps. AreFed ps c.as_mut_slice.result.now new) c.as_slice-in-pieces.ensures.value c.feed_all.ensures) in
    let back : take c.pieces.runs.len (new ++ drop (length new) runs) ≡ new = written-back c.pieces.runs.len new runs fed.many (omega (arith, c.pieces.runs.ok.0)) in
    let full : length piece ≡ 262144 = omega (arith, c.if-len-lt-PIECE.false, c.len.ensures, c.next_piece.new.piece.ok.0, told.few) in
    let not_ended : All HasNotEnded new = subst (All HasNotEnded) (c.as_slice-in-pieces-2.ensures.value ∙ back) c.in_ok-first_refusal.ensures.not_ended in
    record {
      between = subst (AreBetween at c.args.points.now from.edges from.ahead from.most next.latest next.most next.ahead c.with_rows-facts.result) (sym back)
          (between-more at c.args.points.now from.edges from.ahead from.most c.requires.edges c.requires.few now.latest now.most now.ahead c.pieces.facts runs c.pieces.invariant.between
          piece next.most ranges told.rising told.most new fed next.ahead c.with_rows-facts.result next.latest (λ before is. c.with_rows-facts.ensures before is ∙ ap (λ ps. facts_of (before ++ ps)) c.as_slice.ensures.value) told.latest (told.first full) not_ended);
      edges = told.edges ∙ c.pieces.invariant.edges;
    }

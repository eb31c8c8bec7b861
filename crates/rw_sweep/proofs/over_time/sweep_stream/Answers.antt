use Rattle.std.proofs.Common.{◌≡◌, Result, Ok, Err, sym, subst}
use Rattle.std.specs.Prelude.{IfSome, OnOk, Some}
use Rattle.std.proofs.lemmas.Result.{IfErr-weaker}
use Rattle.rw_trace.specs.Limits.{most_streamed_rows}
use Rattle.rw_trace.specs.Pieces.{RowsAhead, ordered_trace_of}
use Rattle.rw_trace.specs.Unread.{records_of}
use Rattle.rw_sweep.specs.Streams.{IsRowsSweepFault, IsStreamSweepFault}
use Rattle.rw_sweep.proofs.Streamed.{begun-known, fault-known, known-ahead, swept-known}
use Rattle.rw_sweep.proofs.over_time.sweep_stream.Goals as goal
use Rattle.rw_sweep.specs.Grids.{least_edges}

on_ok : {T E : Type 0} {P Q : Type 0} (r : Result T E) → (P → Q) → OnOk r P → OnOk r Q
on_ok (Ok x) f h = f h
on_ok (Err e) f h = tt

pub returns-clause-table : goal.returns-clause-table
returns-clause-table g c =
    let s = c.args.sweeping.now in
    let known = g.D.Read.remaining c.args.bytes in
    let is = subst (λ (rows : RowsAhead). IfSome known (λ xs. rows.ahead ≡ Some (ordered_trace_of (least_edges s.grid.now) most_streamed_rows (records_of xs)))) (sym c.new-source.ensures)
    (known-ahead known c.in_ok-rows.rows.ahead c.edges.result (least_edges s.grid.now) c.edges.ensures c.in_ok-rows.ensures.ahead) in
    on_ok c.sweep_rows.result (swept-known s.grid.now s.part s.outlook known c.new-source.result.source.ahead is (g.W.Write.contents c.args.out.now.writer) (g.W.Write.contents c.sweep_rows.new.out.writer)) c.sweep_rows.ensures.table

pub returns-clause-fault : goal.returns-clause-fault
returns-clause-fault g c =
    let s = c.args.sweeping.now in
    let known = g.D.Read.remaining c.args.bytes in
    let ahead = c.new-source.result.source.ahead in
    let is = subst (λ (rows : RowsAhead). IfSome known (λ xs. rows.ahead ≡ Some (ordered_trace_of (least_edges s.grid.now) most_streamed_rows (records_of xs)))) (sym c.new-source.ensures)
    (known-ahead known c.in_ok-rows.rows.ahead c.edges.result (least_edges s.grid.now) c.edges.ensures c.in_ok-rows.ensures.ahead) in
    IfErr-weaker c.sweep_rows.result (IsRowsSweepFault s.grid.now s.part s.outlook ahead) (IsStreamSweepFault s.grid.now s.part s.outlook known) (fault-known s.grid.now s.part s.outlook known ahead is) c.sweep_rows.ensures.fault

pub returns-clause-cut_off : goal.returns-clause-cut_off
returns-clause-cut_off g c =
    let s = c.args.sweeping.now in
    let known = g.D.Read.remaining c.args.bytes in
    let is = subst (λ (rows : RowsAhead). IfSome known (λ xs. rows.ahead ≡ Some (ordered_trace_of (least_edges s.grid.now) most_streamed_rows (records_of xs)))) (sym c.new-source.ensures)
    (known-ahead known c.in_ok-rows.rows.ahead c.edges.result (least_edges s.grid.now) c.edges.ensures c.in_ok-rows.ensures.ahead) in
    λ same. begun-known s.grid.now s.part s.outlook known c.new-source.result.source.ahead is (g.W.Write.contents c.args.out.now.writer) (g.W.Write.contents c.sweep_rows.new.out.writer) (c.sweep_rows.ensures.cut_off same)

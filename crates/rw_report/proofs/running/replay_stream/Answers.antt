use Rattle.std.proofs.Common.{Result, Ok, Err, sym, subst}
use Rattle.std.specs.Prelude.{OnOk}
use Rattle.std.proofs.lemmas.Result.{IfErr-weaker}
use Rattle.rw_trace.specs.Pieces.{RowsAhead}
use Rattle.rw_photo.specs.declared.config.Config.{Config}
use Rattle.rw_report.specs.Replay.{IsRowsTellingFault, IsStreamingFault}
use Rattle.rw_report.proofs.Known.{Opened, begun_known, fault_known, opened, told_known}
use Rattle.rw_report.proofs.running.replay_stream.Goals as goal

on_ok : {T E : Type 0} {P Q : Type 0} (r : Result T E) → (P → Q) → OnOk r P → OnOk r Q
on_ok (Ok x) f h = f h
on_ok (Err e) f h = tt

pub returns-clause-told : goal.returns-clause-told
returns-clause-told g c =
    let config : Config = c.args.config.now in
    let known = g.R.Read.remaining c.args.bytes in
    let is = subst (λ (rows : RowsAhead). Opened config known rows.ahead) (sym c.new-source.ensures) (opened config c.edges.result known c.in_ok-rows.rows.ahead c.edges.ensures c.in_ok-rows.ensures.ahead) in
    on_ok c.replay_rows.result (told_known config c.args.outlook c.new-source.result.source.ahead known is (g.W.Write.contents c.args.out.now.writer) (g.W.Write.contents c.replay_rows.new.out.writer)) c.replay_rows.ensures.told

pub returns-clause-fault : goal.returns-clause-fault
returns-clause-fault g c =
    let config : Config = c.args.config.now in
    let known = g.R.Read.remaining c.args.bytes in
    let ahead = c.new-source.result.source.ahead in
    let is = subst (λ (rows : RowsAhead). Opened config known rows.ahead) (sym c.new-source.ensures) (opened config c.edges.result known c.in_ok-rows.rows.ahead c.edges.ensures c.in_ok-rows.ensures.ahead) in
    IfErr-weaker c.replay_rows.result (IsRowsTellingFault config c.args.outlook ahead) (IsStreamingFault config c.args.outlook known) (λ e h. fault_known config c.args.outlook ahead e h known is) c.replay_rows.ensures.fault

pub returns-clause-cut_off : goal.returns-clause-cut_off
returns-clause-cut_off g c =
    let config : Config = c.args.config.now in
    let known = g.R.Read.remaining c.args.bytes in
    let is = subst (λ (rows : RowsAhead). Opened config known rows.ahead) (sym c.new-source.ensures) (opened config c.edges.result known c.in_ok-rows.rows.ahead c.edges.ensures c.in_ok-rows.ensures.ahead) in
    λ same. begun_known config c.args.outlook c.new-source.result.source.ahead known is (g.W.Write.contents c.args.out.now.writer) (g.W.Write.contents c.replay_rows.new.out.writer) (c.replay_rows.ensures.cut_off same)

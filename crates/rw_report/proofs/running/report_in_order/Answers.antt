use Rattle.std.proofs.Common.{◌≡◌, None, Option, Ok, Err, Result, refl, subst, sym}
use Rattle.std.specs.Prelude.{IfOk, IfSome}
use Rattle.std.specs.Result.{result_ok}
use Rattle.rw_photo.specs.declared.config.Config.{Config}
use Rattle.rw_report.specs.declared.format.Format.TheVariants as format
use Rattle.rw_report.specs.declared.intervals.Outlook.{Outlook}
use Rattle.rw_report.specs.Replay.{IsReportOf, TellsOfRows}
use Rattle.rw_report.proofs.Known.{report_known}
use Rattle.rw_report.proofs.running.report_in_order.Goals as goal

ok_some : {T E : Type 0} (P Q : T → Type 0) → ((t : T) → P t → Q t) → (r : Result T E) (o : Option T) → o ≡ result_ok r → IfOk r P → IfSome o Q
ok_some P Q f (Ok t) o is p = subst (λ x. IfSome x Q) (sym is) (f t p)
ok_some P Q f (Err e) o is p = subst (λ x. IfSome x Q) (sym is) tt

pub returns : goal.returns
returns g c =
    let config : Config = c.args.config.now in
    let bytes = c.args.bytes.now in
    let o : Outlook = record { warm_up = None; every = None; format = format.Text } in
    let ahead = c.in_ok-rows.rows.ahead in
    ok_some (λ text. TellsOfRows config o ahead text.items) (λ text. IsReportOf config bytes text.items)
    (λ text told. report_known config o c.edges.result ahead bytes refl refl refl c.edges.ensures c.in_ok-rows.ensures.ahead text.items told) c.text_of_rows.result c.ok.result c.ok.ensures.value c.text_of_rows.ensures.text

use Rattle.std.proofs.Common.{◌≡◌, true, rules}
use Rattle.std.specs.Result.{is_ok}
use Rattle.rw_report.proofs.report_text.write_counters.Goals as goal

pub returns : goal.returns
returns c =
    let good : is_ok c.push.result ≡ true = search rules in
    let last = rw good at c.push.ensures.items in
    let step_1 = c.in_ok-write_count.ensures in
    let step_2 = c.in_ok-write_count-2.ensures in
    let step_3 = c.in_ok-write_count-3.ensures in
    let step_4 = c.in_ok-write_count-4.ensures in
    let step_5 = c.in_ok-write_count-5.ensures in
    let step_6 = c.in_ok-write_count-6.ensures in
    let step_7 = c.in_ok-write_count-7.ensures in
    let step_8 = c.in_ok-write_count-8.ensures in
    let step_9 = c.in_ok-write_count-9.ensures in
    let step_10 = c.in_ok-write_count-10.ensures in
    let step_11 = c.in_ok-write_count-11.ensures in
    let step_12 = c.in_ok-write_count-12.ensures in
    let step_13 = c.in_ok-write_count-13.ensures in
    cc

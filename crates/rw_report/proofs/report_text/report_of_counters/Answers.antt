use Rattle.std.proofs.Common.{◌≡◌, ◌+◌, ◌++◌, ◌<◌, suc, true, rules, refl, sym, ◌∙◌, ap, arith, take, take_all, zero-add, length, get_or, List, codes}
use Rattle.std.specs.Result.{is_ok}
use Rattle.rw_photo.specs.declared.counters.Counters.{Counters}
use Rattle.rw_photo.specs.Counts.{no_counts, sum_of}
use Rattle.rw_report.specs.Report.{cache_lines, line, name_of, totals}
use Rattle.rw_report.proofs.Lines.{line-append, lines-more, totals-more}
use Rattle.rw_report.proofs.report_text.report_of_counters.Goals as goal

pub loop-process-preserved : goal.loop-process-preserved
loop-process-preserved c =
    let n = c.loop-process.process in
    let all : List Counters = c.args.all.now in
    let config = c.args.config.now in
    let next : n + 1 ≡ suc n = omega arith in
    let here : Counters = get_or all n no_counts in
    let within : n < length all = c.loop-process-test.true in
    rw next (record {
      lines =
          c.in_ok-write_counters.ensures
          ∙ ap (λ text. line text here) c.in_ok-write_name.ensures
          ∙ line-append c.loop-process.text.items (name_of config n) here
          ∙ ap (λ text. text ++ line (name_of config n) here) c.loop-process.invariant.lines
          ∙ sym (lines-more config 0 n all no_counts within ∙ rw zero-add refl);
      total = c.add.ensures ∙ ap (λ t. sum_of t here) c.loop-process.invariant.total ∙ sym (totals-more n all no_counts within);
    })

pub returns : goal.returns
returns c =
    let n = c.loop-process.process in
    let all : List Counters = c.args.all.now in
    let config = c.args.config.now in
    let whole : take n all ≡ all = take_all n all c.loop-process-test.false in
    let good : is_ok c.extend_from_slice.result ≡ true = search rules in
    let word = rw good at c.extend_from_slice.ensures.items in
    c.in_ok-write_counters-2.ensures
    ∙ ap (λ text. line text c.loop-process.total) word
    ∙ line-append c.loop-process.text.items (codes "total") c.loop-process.total
    ∙ ap (λ text. text ++ line (codes "total") c.loop-process.total) c.loop-process.invariant.lines
    ∙ ap (λ t. cache_lines config 0 (take n all) ++ line (codes "total") t) c.loop-process.invariant.total
    ∙ ap (λ ks. cache_lines config 0 ks ++ line (codes "total") (totals ks)) whole

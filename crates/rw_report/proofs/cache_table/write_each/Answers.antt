use Rattle.std.proofs.Common.{◌≡◌, ◌+◌, ◌++◌, ◌<◌, suc, refl, sym, ◌∙◌, ap, arith, append_assoc, take, take_all, zero-add, length, get_or, List, ℕ}
use Rattle.rw_photo.specs.declared.counters.Counters.{Counters}
use Rattle.rw_photo.specs.Counts.{no_counts}
use Rattle.rw_report.specs.Formats.{cache_line, each_line}
use Rattle.rw_report.proofs.Pieces.{each-more}
use Rattle.rw_report.proofs.cache_table.write_each.Goals as goal

pub loop-process-preserved : goal.loop-process-preserved
loop-process-preserved c =
    let n = c.loop-process.process in
    let all : List Counters = c.args.all.now in
    let config = c.args.config.now in
    let text : List ℕ = c.args.text.now.items in
    let next : n + 1 ≡ suc n = omega arith in
    let here : Counters = get_or all n no_counts in
    let within : n < length all = c.loop-process-test.true in
    rw next (
    c.in_ok-write_cache.ensures
    ∙ ap (λ l. l ++ cache_line config n here) c.loop-process.invariant
    ∙ append_assoc text (each_line config 0 (take n all)) (cache_line config n here)
    ∙ ap (λ l. text ++ l) (sym (each-more config 0 n all no_counts within ∙ rw zero-add refl))
    )

pub returns : goal.returns
returns c =
    let all : List Counters = c.args.all.now in
    let whole = take_all c.loop-process.process all c.loop-process-test.false in
    c.loop-process.invariant ∙ ap (λ ks. c.args.text.now.items ++ each_line c.args.config.now 0 ks) whole

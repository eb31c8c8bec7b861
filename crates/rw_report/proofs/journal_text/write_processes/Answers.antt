use Rattle.std.proofs.Common.{◌≡◌, ◌+◌, ◌<◌, ◌++◌, ◌∙◌, ℕ, suc, List, refl, sym, ap, arith, take, length, zero-add, append_assoc}
use Rattle.rw_lp.specs.Process.{ProcessState}
use Rattle.rw_photo.specs.declared.body.Body.{Body}
use Rattle.rw_photo.specs.Cache.{Cache}
use Rattle.rw_world.specs.Sound.{committed_of}
use Rattle.rw_report.specs.Journal.{event_lines}
use Rattle.rw_report.proofs.Journals.{process_lines, processes-more}
use Rattle.rw_report.proofs.journal_text.write_processes.Goals as goal

pub loop-process-preserved : goal.loop-process-preserved
loop-process-preserved c =
    let n : ℕ = c.loop-process.process in
    let processes : List (ProcessState Cache Body) = c.args.world.now.world.processes in
    let text : List ℕ = c.args.text.now.items in
    let next : n + 1 ≡ suc n = omega arith in
    let within : n < length processes = omega (arith, c.requires.processes, c.loop-process-test.true) in
    let more : process_lines 0 (take (suc n) processes) ≡ process_lines 0 (take n processes) ++ event_lines n (committed_of processes n) =
    processes-more 0 n processes within ∙ rw zero-add refl in
    rw next (c.in_ok-write_events.ensures
    ∙ (ap (λ t. t ++ event_lines n c.journal.result.now) c.loop-process.invariant
    ∙ (ap (λ es. (text ++ process_lines 0 (take n processes)) ++ event_lines n es) c.journal.ensures.is
    ∙ (append_assoc text (process_lines 0 (take n processes)) (event_lines n (committed_of processes n)) ∙ ap (λ t. text ++ t) (sym more)))))

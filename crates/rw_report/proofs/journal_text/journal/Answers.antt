use Rattle.std.proofs.Common.{append_assoc}
use Rattle.rw_report.proofs.journal_text.journal.Goals as goal

pub returns : goal.returns
returns c =
    let first = c.new-text.ensures.items in
    let refused = c.in_ok-write_answers.ensures in
    let committed = c.in_ok-write_processes.ensures in
    let floor = c.in_ok-write_count.ensures in
    let ended = c.in_ok-push.ensures.items in
    let last = c.in_ok-extend_from_slice.ensures.items in
    let least = c.floor.ensures.least in
    let words = c.finished_line.ensures in
    let finished = c.finished.ensures.is in
    rw (last, ended, floor, committed, refused, first) (simp append_assoc cc)

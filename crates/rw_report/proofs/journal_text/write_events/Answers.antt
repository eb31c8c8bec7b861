use Rattle.std.proofs.Common.{◌≡◌, ◌+◌, ◌<◌, ◌++◌, ◌∙◌, ℕ, suc, List, sym, ap, arith, take, get_or, length, append_assoc}
use Rattle.rw_vt.specs.declared.event.Event.{Event}
use Rattle.rw_photo.specs.declared.body.Body.{Body}
use Rattle.rw_photo.specs.declared.body.Body.TheVariants.{Request}
use Rattle.rw_report.specs.Journal.{event_line, event_lines}
use Rattle.rw_report.proofs.Journals.{lines-more}
use Rattle.rw_report.proofs.journal_text.write_events.Goals as goal

pub loop-event-preserved : goal.loop-event-preserved
loop-event-preserved c =
    let n : ℕ = c.loop-event.event-index in
    let process : ℕ = c.args.process in
    let events : List (Event Body) = c.args.events.now in
    let text : List ℕ = c.args.text.now.items in
    let other : Event Body = record { time = 0; source = 0; number = 0; to = 0; body = Request 0 0 } in
    let next : n + 1 ≡ suc n = omega arith in
    let within : n < length events = c.loop-event-test.true in
    let more : event_lines process (take (suc n) events) ≡ event_lines process (take n events) ++ event_line process (get_or events n other) =
    lines-more (event_line process) n events other within in
    rw next (c.in_ok-write_event.ensures
    ∙ (ap (λ t. t ++ event_line process (get_or events n other)) c.loop-event.invariant
    ∙ (append_assoc text (event_lines process (take n events)) (event_line process (get_or events n other)) ∙ ap (λ t. text ++ t) (sym more))))

use Rattle.std.proofs.Common.{◌≤◌, ◌++◌, sym, subst, ◌∙◌}
use Rattle.std.specs.Prelude.{All, IsPermutation}
use Rattle.rw_trace.specs.Laws.{IsRow}
use Rattle.rw_report.specs.Run.{IsRunOn, RunState}
use Rattle.rw_report.proofs.Taking.{late_events, late_moved, ready_more, takes}
use Rattle.rw_report.proofs.run.Run.take.Goals as goal

pub add-requires-clause-late : goal.add-requires-clause-late
add-requires-clause-late c =
    let late = subst (λ (v : RunState). All (λ row. v.time ≤ row.time) c.args.rows.now) (sym c.self.view_is) c.requires.late in
    subst (All (λ e. c.self.inside.time ≤ e.time)) (sym (c.deref.ensures.value ∙ c.in_ok-events.ensures.events)) (late_events c.self.inside.time c.self.inside.taken c.args.rows.now late)

pub invariant_of-result : goal.invariant_of-result
invariant_of-result c =
    let was = c.self.inside in
    let waiting = was.pending.events ++ was.first.items in
    let after = c.add.new.pending.events ++ c.add.new.first.items in
    let events = c.in_ok-events.events.items in
    let late = subst (λ (v : RunState). All (λ row. v.time ≤ row.time) c.args.rows.now) (sym c.self.view_is) c.requires.late in
    let ranges = subst (λ (v : RunState). All (IsRow v.config.edges) c.args.rows.now) (sym c.self.view_is) c.requires.ranges in
    let moved = subst (λ es. IsPermutation (waiting ++ es) after) c.deref.ensures.value c.in_ok-add.ensures.added in
    let late_ones = subst (All (λ e. was.time ≤ e.time)) (sym c.in_ok-events.ensures.events) (late_events was.time was.taken c.args.rows.now late) in (
      ready_more was.photo was.states.items waiting events after c.self.invariant.0 (c.in_ok-events.ensures.valid was.photo.config ranges) moved,
      late_moved was.time waiting events after c.self.invariant.1 late_ones moved,
      c.in_ok-add.ensures.apart,
    )

pub returns-clause-taken : goal.returns-clause-taken
returns-clause-taken c = λ before run.
    let was = c.self.inside in
    let waiting = was.pending.events ++ was.first.items in
    let after = c.add.new.pending.events ++ c.add.new.first.items in
    let events = c.in_ok-events.events.items in
    let r : RunState = record { config = was.photo.config; time = was.time; taken = was.taken; states = was.states.items; waiting = waiting } in
    let late = subst (λ (v : RunState). All (λ row. v.time ≤ row.time) c.args.rows.now) (sym c.self.view_is) c.requires.late in
    let ranges = subst (λ (v : RunState). All (IsRow v.config.edges) c.args.rows.now) (sym c.self.view_is) c.requires.ranges in
    let moved = subst (λ es. IsPermutation (waiting ++ es) after) c.deref.ensures.value c.in_ok-add.ensures.added in
    takes r before c.args.rows.now events after (subst (IsRunOn before) (sym c.self.view_is) run) c.in_ok-events.ensures.events (c.in_ok-events.ensures.valid was.photo.config ranges) late moved

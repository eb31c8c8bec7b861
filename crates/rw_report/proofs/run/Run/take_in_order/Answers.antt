use Rattle.std.proofs.Common.{◌≡◌, ◌∙◌, ◌≤◌, ◌<◌, ◌+◌, ◌-◌, ◌^◌, ◌++◌, ◌⊎◌, ℕ, [], arith, length, refl, sym, subst}
use Rattle.std.specs.Prelude.{All}
use Rattle.rw_vt.specs.System.{map_from}
use Rattle.rw_trace.specs.Laws.{IsRow}
use Rattle.rw_trace.specs.Pieces.{RiseFrom}
use Rattle.rw_photo.specs.Events.{event_of}
use Rattle.rw_photo.proofs.ValidRows.{valid-rows}
use Rattle.rw_report.specs.Run.{IsRunOn, RunState}
use Rattle.rw_report.proofs.Recorded.{rising_late}
use Rattle.rw_report.proofs.Taking.{added_in_front, all_later, apart_after, in_order, late_events, late_moved, ready_more, takes}
use Rattle.rw_report.proofs.run.Run.take_in_order.Goals as goal

pub take-requires-clause-late : goal.take-requires-clause-late
take-requires-clause-late c =
    subst (λ rs. All (λ row. c.args.self.time ≤ row.time) rs) (sym c.as_slice.ensures.value) (rising_late c.args.self.time c.args.rows.items c.requires.rising)

pub refill-requires-clause-order : goal.refill-requires-clause-order
refill-requires-clause-order c =
    in_order 0 c.args.self.time c.args.rows.items (omega arith) c.requires.rising

pub refill-requires-clause-later : goal.refill-requires-clause-later
refill-requires-clause-later c =
    let was = c.self.inside in
    let may = subst (λ (v : RunState). (v.waiting ≡ []) ⊎ (0 < v.time)) (sym c.self.view_is) (c.may_refill.ensures c.if-not-may_refill.false) in
    all_later was.time was.pending.time was.pending.events was.first.items c.self.invariant.2 c.self.invariant.1 may

pub invariant_of-result : goal.invariant_of-result
invariant_of-result c =
    let was = c.self.inside in
    let waiting = was.pending.events ++ was.first.items in
    let after = c.refill.new.pending.events ++ was.first.items in
    let events = map_from was.taken event_of c.args.rows.items in
    let rising = subst (λ (v : RunState). RiseFrom v.time c.args.rows.items) (sym c.self.view_is) c.requires.rising in
    let ranges = subst (λ (v : RunState). All (IsRow v.config.edges) c.args.rows.items) (sym c.self.view_is) c.requires.ranges in
    let few = subst (λ (v : RunState). v.taken + length c.args.rows.items ≤ 2 ^ 64 - 1) (sym c.self.view_is) c.requires.few in
    let moved = added_in_front was.pending.events c.refill.new.pending.events was.first.items events c.in_ok-refill.ensures.added in
    let late_ones = late_events was.time was.taken c.args.rows.items (rising_late was.time c.args.rows.items rising) in (
      ready_more was.photo was.states.items waiting events after c.self.invariant.0 (valid-rows was.photo.config was.taken c.args.rows.items (omega (arith, few)) ranges) moved,
      late_moved was.time waiting events after c.self.invariant.1 late_ones moved,
      apart_after was.time was.pending.time c.refill.new.pending.time was.first.items c.self.invariant.2 c.in_ok-refill.ensures.time,
    )

pub returns-clause-taken : goal.returns-clause-taken
returns-clause-taken c = λ before run.
    let was = c.self.inside in
    let waiting = was.pending.events ++ was.first.items in
    let after = c.refill.new.pending.events ++ was.first.items in
    let events = map_from was.taken event_of c.args.rows.items in
    let r : RunState = record { config = was.photo.config; time = was.time; taken = was.taken; states = was.states.items; waiting = waiting } in
    let rising = subst (λ (v : RunState). RiseFrom v.time c.args.rows.items) (sym c.self.view_is) c.requires.rising in
    let ranges = subst (λ (v : RunState). All (IsRow v.config.edges) c.args.rows.items) (sym c.self.view_is) c.requires.ranges in
    let few = subst (λ (v : RunState). v.taken + length c.args.rows.items ≤ 2 ^ 64 - 1) (sym c.self.view_is) c.requires.few in
    let moved = added_in_front was.pending.events c.refill.new.pending.events was.first.items events c.in_ok-refill.ensures.added in
    let longer : ℕ → RunState = λ n. record { config = was.photo.config; time = was.time; taken = was.taken + n; states = was.states.items; waiting = after } in
    subst (λ n. IsRunOn (before ++ c.args.rows.items) (longer n)) (sym (c.len-count.ensures ∙ c.args.rows.ok.0))
    (takes r before c.args.rows.items events after (subst (IsRunOn before) (sym c.self.view_is) run) refl (valid-rows was.photo.config was.taken c.args.rows.items (omega (arith, few)) ranges) (rising_late was.time c.args.rows.items rising) moved)

use Rattle.std.proofs.Common.{◌+◌, ◌≤◌, ◌^◌, [], All, append-nil, length, rules, subst, sym, true, ◌≡◌}
use Rattle.rw_vt.specs.System.{map_from}
use Rattle.rw_photo.specs.Events.{event_of, is_valid}
use Rattle.rw_photo.proofs.OrderedRows.{in_order_whole}
use Rattle.rw_photo.proofs.ValidRows.{valid-rows}
use Rattle.rw_photo.proofs.ordered_requests.OrderedRequests.new.Goals as goal

pub returns-in_default-clause-none : goal.returns-in_default-clause-none
returns-in_default-clause-none c order = c.in_default.ensures.none [] (in_order_whole c.args.rows.now order)

pub returns-clause-valid : goal.returns-clause-valid
returns-clause-valid c =
    let rows = c.args.rows.now in
    let few : 0 + length rows ≤ 2 ^ 64 = search rules in
    λ config ranges. subst (λ rs. All (λ e. is_valid config e ≡ true) (map_from 0 event_of rs)) (sym (append-nil rows)) (valid-rows config 0 rows few ranges)

use Rattle.std.proofs.Common.{◌≡◌, All, arith, subst, sym, true}
use Rattle.rw_vt.specs.System.{map_from}
use Rattle.rw_photo.specs.Events.{event_of, is_valid}
use Rattle.rw_photo.proofs.ValidRows.{valid-rows}
use Rattle.rw_photo.proofs.piece_requests.PieceRequests.new.Goals as goal

pub returns-clause-valid : goal.returns-clause-valid
returns-clause-valid c = λ config ranges.
    let few = c.requires.few in
    subst (λ rs. All (λ e. is_valid config e ≡ true) (map_from c.args.first event_of rs)) (sym c.into_iter.ensures.rest)
    (valid-rows config c.args.first c.args.rows.items (omega (arith, few)) ranges)

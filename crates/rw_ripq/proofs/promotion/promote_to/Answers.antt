use Rattle.std.proofs.Common.{◌≡◌, ◌∙◌, ◌≤◌, ◌<◌, sym, ap, subst, length}
use Rattle.std.specs.Prelude.{Some}
use Rattle.rw_blocks.specs.Loose.{IsLoose}
use Rattle.rw_blocks.specs.State.{QueueState, row_at}
use Rattle.rw_blocks.specs.Undo.{Undoes}
use Rattle.rw_blocks.proofs.Cited.{at_some, when_none}
use Rattle.rw_ripq.specs.Trail.{Leads}
use Rattle.rw_ripq.proofs.Trails.{Leads-push}
use Rattle.rw_ripq.proofs.Moves.{row-small}
use Rattle.rw_ripq.proofs.Made.{replace-fits}
use Rattle.rw_ripq.proofs.promotion.promote_to.Goals as goal

pub make_room-requires-clause-small : goal.make_room-requires-clause-small
make_room-requires-clause-small g c =
    let same : c.replace_within.new.self ≡ c.args.queue.now = when_none (c.replace_within.new.self ≡ c.args.queue.now) c.in_ok-mark.field-0 c.in_default.is c.in_ok-mark.ensures.full in
    subst (λ (z : QueueState). c.args.row.size ≤ z.shape.block) (sym same) (row-small _ _ _ c.requires.loose c.requires.row)

pub replace_row-requires-clause-fits : goal.replace_row-requires-clause-fits
replace_row-requires-clause-fits g c =
    let q : QueueState = c.replace_within.new.self in
    let same : q ≡ c.args.queue.now = when_none (q ≡ c.args.queue.now) c.in_ok-mark.field-0 c.in_default.is c.in_ok-mark.ensures.full in
    let loose : IsLoose q = subst IsLoose (sym same) c.requires.loose in
    let there : c.args.section < length q.sections = subst (λ (z : QueueState). c.args.section < length z.sections) (sym same) c.requires.there in
    let row : row_at q c.args.object ≡ Some c.args.row = ap (λ (z : QueueState). row_at z c.args.object) same ∙ c.requires.row in
    rw c.in_ok-make_room.ensures.effect (replace-fits q c.args.object c.args.section c.args.row loose there row)

-- the slow way, by room that is made first
pub returns-clause-leads : goal.returns-clause-leads
returns-clause-leads g c =
    let same : c.replace_within.new.self ≡ c.args.queue.now = when_none (c.replace_within.new.self ≡ c.args.queue.now) c.in_ok-mark.field-0 c.in_default.is c.in_ok-mark.ensures.full in
    λ kept start l. (c.in_ok-clear-2.ensures.trail kept).leads start (rw (c.in_ok-push-2.ensures kept) (Leads-push _ _ _ _ _ ((c.in_ok-make_room.ensures.trail kept).leads start (subst (λ (z : QueueState). Leads (g.M.Marks.list c.args.trail.now) start z) (sym same) l)) c.in_ok-mark-2.ensures.undoes))

-- the size fits: one call does it
pub returns-in_ok-clear-clause-leads : goal.returns-in_ok-clear-clause-leads
returns-in_ok-clear-clause-leads g c =
    let undoes : Undoes c.in-Some.mark c.args.queue.now c.replace_within.new.self = at_some (λ d. Undoes d.0 c.args.queue.now c.replace_within.new.self) c.in_ok-mark.field-0 (c.in-Some.mark, c.in-Some.left) c.in-Some.is c.in_ok-mark.ensures.undoes in
    λ kept start l. (c.in_ok-clear.ensures.trail kept).leads start (rw (c.in_ok-push.ensures kept) (Leads-push _ _ _ _ _ l undoes))

pub returns-else-not-left-clause-leads : goal.returns-else-not-left-clause-leads
returns-else-not-left-clause-leads g c =
    let undoes : Undoes c.in-Some.mark c.args.queue.now c.replace_within.new.self = at_some (λ d. Undoes d.0 c.args.queue.now c.replace_within.new.self) c.in_ok-mark.field-0 (c.in-Some.mark, c.in-Some.left) c.in-Some.is c.in_ok-mark.ensures.undoes in
    λ kept start l. rw (c.in_ok-push.ensures kept) (Leads-push _ _ _ _ _ l undoes)

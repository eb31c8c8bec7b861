use Rattle.std.proofs.Common.{◌≡◌, ◌∙◌, sym, ap, subst}
use Rattle.rw_blocks.specs.declared.Kind.TheVariants.{Device}
use Rattle.rw_blocks.specs.State.{QueueState}
use Rattle.rw_blocks.specs.Undo.{Undoes}
use Rattle.rw_blocks.proofs.Cited.{at_some, when_none}
use Rattle.rw_ripq.specs.Put.{with_room}
use Rattle.rw_ripq.specs.Trail.{Leads}
use Rattle.rw_ripq.proofs.Trails.{Leads-push}
use Rattle.rw_ripq.proofs.Made.{put-fits, put-room}
use Rattle.rw_ripq.proofs.insertion.insert_at.Goals as goal

pub add-requires-clause-fits : goal.add-requires-clause-fits
add-requires-clause-fits g c =
    let same : c.add_within.new.self ≡ c.args.queue.now = when_none (c.add_within.new.self ≡ c.args.queue.now) c.in_ok-mark.field-0 c.in_default.is c.in_ok-mark.ensures.full in
    put-fits _ _ c.args.object _ _ c.requires.insertable c.requires.there (c.in_ok-full.ensures.effect ∙ ap (λ (z : QueueState). with_room z Device c.args.section c.args.size) same)

pub adjust-requires-clause-headroom : goal.adjust-requires-clause-headroom
adjust-requires-clause-headroom g c =
    let same : c.add_within.new.self ≡ c.args.queue.now = when_none (c.add_within.new.self ≡ c.args.queue.now) c.in_ok-mark.field-0 c.in_default.is c.in_ok-mark.ensures.full in
    put-room c.args.queue.now c.make_room.new.queue c.add.new.self c.args.change.now.counts c.args.object c.args.size c.args.section c.in_ok-mark-2.ensures.kept (c.in_ok-full.ensures.effect ∙ ap (λ (z : QueueState). with_room z Device c.args.section c.args.size) same) c.in_ok-mark-2.ensures.effect c.requires.fresh c.requires.none

pub returns-in_ok-adjust-clause-leads : goal.returns-in_ok-adjust-clause-leads
returns-in_ok-adjust-clause-leads g c =
    let same : c.add_within.new.self ≡ c.args.queue.now = when_none (c.add_within.new.self ≡ c.args.queue.now) c.in_ok-mark.field-0 c.in_default.is c.in_ok-mark.ensures.full in
    λ kept start l. (c.in_ok-adjust.ensures.trail kept).leads start (rw (c.in_ok-push-2.ensures kept) (Leads-push _ _ _ _ _ ((c.in_ok-full.ensures.trail kept).leads start (subst (λ (z : QueueState). Leads (g.M.Marks.list c.args.change.now.trail) start z) (sym same) l)) c.in_ok-mark-2.ensures.undoes))

pub returns-else-full-clause-leads : goal.returns-else-full-clause-leads
returns-else-full-clause-leads g c =
    let same : c.add_within.new.self ≡ c.args.queue.now = when_none (c.add_within.new.self ≡ c.args.queue.now) c.in_ok-mark.field-0 c.in_default.is c.in_ok-mark.ensures.full in
    λ kept start l. rw (c.in_ok-push-2.ensures kept) (Leads-push _ _ _ _ _ ((c.in_ok-full.ensures.trail kept).leads start (subst (λ (z : QueueState). Leads (g.M.Marks.list c.args.change.now.trail) start z) (sym same) l)) c.in_ok-mark-2.ensures.undoes)

-- the size fits: one call does it
pub returns-in-Some-clause-leads : goal.returns-in-Some-clause-leads
returns-in-Some-clause-leads g c =
    let undoes : Undoes c.in-Some.mark c.args.queue.now c.add_within.new.self = at_some (λ m. Undoes m c.args.queue.now c.add_within.new.self) c.in_ok-mark.field-0 c.in-Some.mark c.in-Some.is c.in_ok-mark.ensures.undoes in
    λ kept start l. rw (c.in_ok-push.ensures kept) (Leads-push _ _ _ _ _ l undoes)

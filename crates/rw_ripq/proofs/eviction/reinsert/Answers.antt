use Rattle.std.proofs.Common.{◌≡◌, ◌∙◌, ◌<◌, ◌≤◌, ◌+◌, ℕ, false, true, sym, ap, subst, refl, arith, length}
use Rattle.std.specs.Prelude.{Some, not}
use Rattle.rw_blocks.specs.declared.Kind.TheVariants.{Device}
use Rattle.rw_blocks.specs.declared.Place.{Place}
use Rattle.rw_blocks.specs.Loose.{IsLoose}
use Rattle.rw_blocks.specs.Primitives.{HasRoom, after_rehome}
use Rattle.rw_blocks.specs.State.{QueueState, row_at}
use Rattle.rw_blocks.specs.Tags.{StandsIn}
use Rattle.rw_blocks.specs.Undo.{Undoes}
use Rattle.rw_blocks.proofs.Cited.{at_some, when_none}
use Rattle.rw_ripq.specs.Put.{is_room, with_room}
use Rattle.rw_ripq.specs.Record.{Recorded}
use Rattle.rw_ripq.specs.Work.{work_of, work_before}
use Rattle.rw_ripq.proofs.Moves.{row-small, rewrite-fits, room-is, section-found, section-within, reinsert-made}
use Rattle.rw_ripq.proofs.Records.{Recorded-none, Recorded-reinsert}
use Rattle.rw_ripq.proofs.eviction.reinsert.Goals as goal

pub unwrap-section-requires : goal.unwrap-section-requires
unwrap-section-requires g c =
    rw (c.section_of.ensures.section, section-found c.args.queue.now c.args.object c.unwrap-row.result c.requires.loose (sym c.row.ensures ∙ c.unwrap-row.ensures)) refl

pub rehome_within-requires-clause-there : goal.rehome_within-requires-clause-there
rehome_within-requires-clause-there g c =
    section-within c.args.queue.now c.args.object c.unwrap-section.result c.unwrap-row.result c.requires.loose (sym c.row.ensures ∙ c.unwrap-row.ensures) (sym c.section_of.ensures.section ∙ c.unwrap-section.ensures)

pub rehome_within-requires-clause-stands : goal.rehome_within-requires-clause-stands
rehome_within-requires-clause-stands g c =
    at_some (λ i. StandsIn c.unwrap-row.result.place i c.args.queue.now.sections) c.section_of.result c.unwrap-section.result c.unwrap-section.ensures c.section_of.ensures.stands

-- the size fits: one call does it
pub returns-in-Some-clause-effect : goal.returns-in-Some-clause-effect
returns-in-Some-clause-effect g c =
    let q : QueueState = c.args.queue.now in
    let o : ℕ = c.args.object in
    let i : ℕ = c.unwrap-section.result in
    let r : Place = c.unwrap-row.result in
    let fits : HasRoom Device q i r.size = at_some (λ m. HasRoom Device q i r.size) c.in_ok-mark.field-0 c.in-Some.mark c.in-Some.is c.in_ok-mark.ensures.fits in
    let made : c.rehome_within.new.self ≡ after_rehome q o i = at_some (λ m. c.rehome_within.new.self ≡ after_rehome q o i) c.in_ok-mark.field-0 c.in-Some.mark c.in-Some.is c.in_ok-mark.ensures.effect in
    let room : is_room q Device i r.size ≡ true = room-is q Device i r.size fits in
    let full : false ≡ not (is_room q Device i r.size) = rw room refl in
    let here : q ≡ with_room q Device i r.size = rw room refl in
    let t = c.args.change.now.counts in
    let none : t.writes ≡ t.writes + 0 = omega arith in
    ap (λ (n : ℕ). work_of c.clear.new.queue (record t { reinserted = t.reinserted + 1; writes = n })) none
    ∙ reinsert-made (work_of q t) o i r false q c.rehome_within.new.self c.clear.new.queue (sym c.row.ensures ∙ c.unwrap-row.ensures) (sym c.section_of.ensures.section ∙ c.unwrap-section.ensures) here made c.in_ok-clear.ensures.effect full

pub returns-in-Some-clause-trail : goal.returns-in-Some-clause-trail
returns-in-Some-clause-trail g c =
    let q : QueueState = c.args.queue.now in
    let o : ℕ = c.args.object in
    let i : ℕ = c.unwrap-section.result in
    let made : c.rehome_within.new.self ≡ after_rehome q o i = at_some (λ m. c.rehome_within.new.self ≡ after_rehome q o i) c.in_ok-mark.field-0 c.in-Some.mark c.in-Some.is c.in_ok-mark.ensures.effect in
    let undoes : Undoes c.in-Some.mark q c.rehome_within.new.self = at_some (λ m. Undoes m q c.rehome_within.new.self) c.in_ok-mark.field-0 c.in-Some.mark c.in-Some.is c.in_ok-mark.ensures.undoes in
    λ kept. Recorded-reinsert _ _ _ _ _ c.args.change.now.counts _ _ c.args.change.now.counts.writes (Recorded-none (g.M.Marks.list c.args.change.now.trail) (work_before q)) (c.in_ok-push.ensures kept) undoes made (c.in_ok-clear.ensures.trail kept)

-- the slow way, by room that is made first
pub make_room-requires-clause-small : goal.make_room-requires-clause-small
make_room-requires-clause-small g c =
    let q : QueueState = c.rehome_within.new.self in
    let same : q ≡ c.args.queue.now = when_none (q ≡ c.args.queue.now) c.in_ok-mark.field-0 c.in_default.is c.in_ok-mark.ensures.full in
    subst (λ (z : QueueState). c.unwrap-row.result.size ≤ z.shape.block) (sym same) (row-small _ _ _ c.requires.loose (sym c.row.ensures ∙ c.unwrap-row.ensures))

pub rehome-requires-clause-fits : goal.rehome-requires-clause-fits
rehome-requires-clause-fits g c =
    let q : QueueState = c.rehome_within.new.self in
    let same : q ≡ c.args.queue.now = when_none (q ≡ c.args.queue.now) c.in_ok-mark.field-0 c.in_default.is c.in_ok-mark.ensures.full in
    let loose : IsLoose q = subst IsLoose (sym same) c.requires.loose in
    let row : row_at q c.args.object ≡ Some c.unwrap-row.result = ap (λ (z : QueueState). row_at z c.args.object) same ∙ (sym c.row.ensures ∙ c.unwrap-row.ensures) in
    let there : c.unwrap-section.result < length q.sections = subst (λ (z : QueueState). c.unwrap-section.result < length z.sections) (sym same) (section-within c.args.queue.now c.args.object c.unwrap-section.result c.unwrap-row.result c.requires.loose (sym c.row.ensures ∙ c.unwrap-row.ensures) (sym c.section_of.ensures.section ∙ c.unwrap-section.ensures)) in
    rw (c.in_ok-full.ensures.effect) (rewrite-fits _ _ _ _ loose there row)

pub returns-clause-effect : goal.returns-clause-effect
returns-clause-effect g c =
    let same : c.rehome_within.new.self ≡ c.args.queue.now = when_none (c.rehome_within.new.self ≡ c.args.queue.now) c.in_ok-mark.field-0 c.in_default.is c.in_ok-mark.ensures.full in
    let made = c.in_ok-full.ensures.effect ∙ ap (λ (z : QueueState). with_room z Device c.unwrap-section.result c.unwrap-row.result.size) same in
    let full = c.in_ok-full.ensures.full ∙ ap (λ (z : QueueState). not (is_room z Device c.unwrap-section.result c.unwrap-row.result.size)) same in
    ap (work_of c.clear-2.new.queue) c.count_write.ensures
    ∙ reinsert-made (work_of c.args.queue.now c.args.change.now.counts) c.args.object c.unwrap-section.result c.unwrap-row.result c.in_ok-full.full _ _ _ (sym c.row.ensures ∙ c.unwrap-row.ensures) (sym c.section_of.ensures.section ∙ c.unwrap-section.ensures)
    made c.in_ok-mark-2.ensures.effect c.in_ok-clear-2.ensures.effect full

pub returns-clause-trail : goal.returns-clause-trail
returns-clause-trail g c =
    let same : c.rehome_within.new.self ≡ c.args.queue.now = when_none (c.rehome_within.new.self ≡ c.args.queue.now) c.in_ok-mark.field-0 c.in_default.is c.in_ok-mark.ensures.full in
    let before : (kept : g.M.Marks.keeps ≡ true) → Recorded (g.M.Marks.list c.args.change.now.trail) (work_before c.args.queue.now) (g.M.Marks.list c.make_room.new.trail) (work_before c.make_room.new.queue) = λ kept. subst (λ (z : QueueState). Recorded (g.M.Marks.list c.args.change.now.trail) (work_before z) (g.M.Marks.list c.make_room.new.trail) (work_before c.make_room.new.queue)) same (c.in_ok-full.ensures.trail kept) in
    λ kept. rw c.count_write.ensures (Recorded-reinsert _ _ _ _ _ c.args.change.now.counts _ _ _ (before kept) (c.in_ok-push-2.ensures kept) c.in_ok-mark-2.ensures.undoes c.in_ok-mark-2.ensures.effect (c.in_ok-clear-2.ensures.trail kept))

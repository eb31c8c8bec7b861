use Rattle.std.proofs.Common.{◌≡◌, ◌∙◌, sym, ap, subst, true}
use Rattle.rw_ripq.specs.Work.{Work, work_of}
use Rattle.rw_ripq.specs.Sealed.{is_sealed}
use Rattle.rw_ripq.specs.Evict.{take_out}
use Rattle.rw_blocks.specs.Loose.{IsLoose, IsFree}
use Rattle.rw_ripq.proofs.Ready.{parts-of}
use Rattle.rw_ripq.proofs.eviction.evict_last.Goals as goal

pub reinsert_all-requires-clause-victim : goal.reinsert_all-requires-clause-victim
reinsert_all-requires-clause-victim g c =
    (parts-of _ _ c.args.block c.requires.loose c.requires.last c.in_ok-leave.ensures.effect).victim

pub reinsert_all-requires-clause-headroom : goal.reinsert_all-requires-clause-headroom
reinsert_all-requires-clause-headroom g c =
    (parts-of _ _ c.args.block c.requires.loose c.requires.last c.in_ok-leave.ensures.effect).room c.requires.headroom

pub take_out-requires-clause-loose : goal.take_out-requires-clause-loose
take_out-requires-clause-loose g c =
    let parts = parts-of _ _ c.args.block c.requires.loose c.requires.last c.in_ok-leave.ensures.effect in
    subst (λ (w : Work). IsLoose w.queue) (sym c.in_ok-reinsert_all.ensures.effect) parts.loose

pub take_out-requires-clause-sealed : goal.take_out-requires-clause-sealed
take_out-requires-clause-sealed g c =
    let parts = parts-of _ _ c.args.block c.requires.loose c.requires.last c.in_ok-leave.ensures.effect in
    subst (λ (w : Work). is_sealed w.queue c.args.block ≡ true) (sym c.in_ok-reinsert_all.ensures.effect) parts.sealed

pub take_out-requires-clause-free : goal.take_out-requires-clause-free
take_out-requires-clause-free g c =
    let parts = parts-of _ _ c.args.block c.requires.loose c.requires.last c.in_ok-leave.ensures.effect in
    subst (λ (w : Work). IsFree w.queue c.args.block) (sym c.in_ok-reinsert_all.ensures.effect) parts.free

pub returns-clause-effect : goal.returns-clause-effect
returns-clause-effect g c =
    let parts = parts-of _ _ c.args.block c.requires.loose c.requires.last c.in_ok-leave.ensures.effect in
    ap (λ q. work_of q c.reinsert_all.new.change.counts) c.in_ok-take_out.ensures.effect
    ∙ ap (λ (w : Work). take_out w c.args.block) c.in_ok-reinsert_all.ensures.effect
    ∙ parts.whole

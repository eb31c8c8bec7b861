use Rattle.std.proofs.Common.{[], length, map, sym, ap, ◌∙◌, subst, get_or}
use Rattle.std.specs.Prelude.{slice_get}
use Rattle.rw_exchange.specs.Ports.{HaveFirst, IsOpening, NoneItself, StayAnOpening}
use Rattle.rw_windows.specs.Beginning.{first_batch}
use Rattle.rw_windows.proofs.beginning.make_parts.Goals as goal

pub returns-clause-shares : goal.returns-clause-shares
returns-clause-shares g c =
    let same = c.from.ensures.0 in (
      ap length same ∙ c.in_ok-shares.ensures.count,
      λ i place below. ap (λ hs. slice_get (get_or (map (λ h. h.items) hs) i []) place) same ∙ c.in_ok-shares.ensures.each i place below,
    )

pub returns-clause-inboxes : goal.returns-clause-inboxes
returns-clause-inboxes g c =
    let same = c.from-2.ensures.0 in (
      ap length same ∙ c.in_ok-inboxes.ensures.count,
      λ i below. ap (λ bs. get_or (map (λ b. b.items) bs) i []) same ∙ c.in_ok-inboxes.ensures.each i below,
    )

pub returns-clause-ports : goal.returns-clause-ports
returns-clause-ports g c =
    let its = c.in_ok-ports.ensures in
    let same = c.from-3.ensures.0 in
    (ap length same ∙ its.count, subst IsOpening (sym same) its.opening, subst StayAnOpening (sym same) its.stays)

pub returns-clause-first_sent : goal.returns-clause-first_sent
returns-clause-first_sent g c =
    let its = c.in_ok-ports.ensures in
    let same = c.from-3.ensures.0 in
    let n = c.args.windows.workers in
    (subst (HaveFirst n (first_batch c.args.model.now n c.args.bound)) (sym same) its.first_sent, subst (NoneItself n) (sym same) its.own)

pub returns-clause-parkers : goal.returns-clause-parkers
returns-clause-parkers g c = ap length c.from-4.ensures.0 ∙ c.in_ok-parkers.ensures.count

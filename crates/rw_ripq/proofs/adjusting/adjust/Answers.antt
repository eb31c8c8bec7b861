use Rattle.std.proofs.Common.{◌∙◌, ap, arith}
use Rattle.rw_ripq.specs.Work.{Work, work_of}
use Rattle.rw_ripq.specs.Record.{HasHeadroom}
use Rattle.rw_ripq.proofs.Headroom.{evict-room, evict-counts, merge_once-room, merge_once-splits}
use Rattle.rw_ripq.proofs.adjusting.adjust.Goals as goal

pub merge_once-requires-clause-headroom : goal.merge_once-requires-clause-headroom
merge_once-requires-clause-headroom g c = rw c.in_ok-evict.ensures.effect (evict-room _ c.requires.loose c.requires.headroom)

pub merge_once-requires-clause-first : goal.merge_once-requires-clause-first
merge_once-requires-clause-first g c =
    ap (λ (w : Work). w.tally.merges) c.in_ok-evict.ensures.effect ∙ (evict-counts (work_of c.args.queue.now c.args.change.now.counts) c.requires.loose).merges ∙ c.requires.merges

pub split_once-requires-clause-fresh : goal.split_once-requires-clause-fresh
split_once-requires-clause-fresh g c =
    let v : Work = work_of c.evict.new.queue c.evict.new.change.counts in
    let room : HasHeadroom v = rw c.in_ok-evict.ensures.effect (evict-room _ c.requires.loose c.requires.headroom) in
    let first = ap (λ (w : Work). w.tally.merges) c.in_ok-evict.ensures.effect ∙ (evict-counts (work_of c.args.queue.now c.args.change.now.counts) c.requires.loose).merges ∙ c.requires.merges in
    let serials = (merge_once-room v c.in_ok-evict.ensures.kept first room).serials in
    let same = ap (λ (w : Work). w.queue.next) c.in_ok-merge_once.ensures.effect in
    omega arith

pub split_once-requires-clause-first : goal.split_once-requires-clause-first
split_once-requires-clause-first g c =
    let w : Work = work_of c.args.queue.now c.args.change.now.counts in
    let v : Work = work_of c.evict.new.queue c.evict.new.change.counts in
    let counts = evict-counts w c.requires.loose in
    ap (λ (w : Work). w.tally.splits) c.in_ok-merge_once.ensures.effect
    ∙ merge_once-splits v c.in_ok-evict.ensures.kept (ap (λ (w : Work). w.tally.merges) c.in_ok-evict.ensures.effect ∙ counts.merges ∙ c.requires.merges) (rw c.in_ok-evict.ensures.effect (evict-room _ c.requires.loose c.requires.headroom))
    ∙ ap (λ (w : Work). w.tally.splits) c.in_ok-evict.ensures.effect ∙ counts.splits ∙ c.requires.splits

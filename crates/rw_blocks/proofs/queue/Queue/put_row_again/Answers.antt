use Rattle.std.proofs.Common.{arith, subst}
use Rattle.std.specs.Prelude.{IsNone}
use Rattle.rw_blocks.proofs.Entries.{lookup-insert_entry}
use Rattle.rw_blocks.specs.State.{QueueState}
use Rattle.rw_blocks.specs.Loose.{IsSized}
use Rattle.rw_blocks.specs.Primitives.{with_row}
use Rattle.rw_blocks.specs.Tags.{IsAbsent}
use Rattle.rw_blocks.proofs.Kept.{total-with_row, of_row}
use Rattle.rw_blocks.proofs.Present.{row-there}
use Rattle.rw_blocks.proofs.queue.Queue.put_row_again.Goals as goal

pub unwrap-section-requires : goal.unwrap-section-requires
unwrap-section-requires c =
    let q : QueueState = c.args.self.now in
    let absent : IsNone c.section_of.result → IsAbsent c.args.row.place q.sections =
    λ none. subst (λ (z : QueueState). IsAbsent c.args.row.place z.sections) c.self.view_is (c.section_of.ensures.none none) in
    row-there (with_row q c.args.object c.args.row) c.args.object c.args.row c.section_of.result c.requires.before (lookup-insert_entry q.rows c.args.object c.args.row) absent

pub put_row-requires-clause-sized : goal.put_row-requires-clause-sized
put_row-requires-clause-sized c =
    let q : QueueState = with_row c.args.self.now c.args.object c.args.row in
    (of_row q c.args.object c.args.row (IsSized q) c.requires.before.sizes (lookup-insert_entry c.args.self.now.rows c.args.object c.args.row)).0

pub put_row-requires-clause-room : goal.put_row-requires-clause-room
put_row-requires-clause-room c =
    let sum = rw c.requires.none at (total-with_row c.args.self.now c.args.object c.args.row c.requires.loose) in
    let within = c.requires.before.within in
    omega (arith, sum, within)

-- Insert: put at the target of the level, and adjust where the put sealed a device block.
use Rattle.std.specs.Prelude.{if◌then◌else◌}
use Rattle.rw_numbers.specs.Words.{Object, Section, Size}
use Rattle.rw_ripq.specs.Words.{Level}
use Rattle.rw_blocks.specs.declared.Kind.TheVariants.{Device}
use Rattle.rw_blocks.specs.State.{QueueState}
use Rattle.rw_ripq.specs.declared.Policy.{Policy}
use Rattle.rw_ripq.specs.Work.{Work, no_tally, work_before, work_of}
use Rattle.rw_ripq.specs.Put.{is_room, put_new}
use Rattle.rw_ripq.specs.Levels.{target}
use Rattle.rw_ripq.specs.Adjust.{adjust}

-- into section i; where its active device block has no room, sealing that is a write
abbrev pub insert_at : QueueState → Object → Size → Section → Work
insert_at q o z i =
    let put = put_new q o z i in
    if is_room q Device i z
    then work_before put
    else adjust (work_of put (record no_tally { writes = 1 }))

-- as one of level l
abbrev pub insert : Policy → QueueState → Object → Size → Level → Work
insert policy q o z l = insert_at q o z (target policy q l)

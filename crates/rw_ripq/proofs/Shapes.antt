-- No operation changes the shape.
use Rattle.std.proofs.Common.{◌≡◌, ℕ, ◌<◌, refl, ◌∙◌, Bool, true, false, length}
use Rattle.rw_blocks.specs.Primitives.{after_replace}
use Rattle.rw_blocks.specs.State.{QueueState, row_or}
use Rattle.rw_blocks.specs.declared.Kind.TheVariants.{Device, Virtual}
use Rattle.rw_ripq.proofs.Cases.{moved_unless, without_block_if}
use Rattle.rw_ripq.proofs.Adjusts.{KeepsAll, insert-good}
use Rattle.rw_ripq.proofs.Rooms.{shape-with_room}
use Rattle.rw_ripq.proofs.Walks.{Keeps, Throughout, throughout}
use Rattle.rw_ripq.specs.Insert.{insert_at}
use Rattle.rw_ripq.specs.Record.{IsInsertable}
use Rattle.rw_ripq.specs.Promote.{is_active_in, promote_to}
use Rattle.rw_ripq.specs.Put.{put_again, with_room}
use Rattle.rw_ripq.specs.Sealed.{is_emptied, section_with}
use Rattle.rw_ripq.specs.Work.{Work}

pub shape-clear : (t : Bool) (q : QueueState) (b : ℕ) → (without_block_if t q b).shape ≡ q.shape
shape-clear true q b = refl
shape-clear false q b = refl

pub shape-moved : (t : Bool) (q : QueueState) (o i : ℕ) → (moved_unless t q o i).shape ≡ q.shape
shape-moved true q o i = refl
shape-moved false q o i =
    let q1 : QueueState = after_replace (with_room q Virtual i (row_or q o).size) o i in
    shape-clear (is_emptied q1 (row_or q o).place) q1 (row_or q o).place ∙ shape-with_room q Virtual i (row_or q o).size

pub promote-shape : (q : QueueState) (o i : ℕ) → (promote_to q o i).shape ≡ q.shape
promote-shape q o i = shape-moved (is_active_in q (row_or q o).place i) q o i

abbrev HasShape : QueueState → Work → Type 0
HasShape old w = w.queue.shape ≡ old.shape

keeps-shape : (old : QueueState) → Keeps (HasShape old)
keeps-shape old =
    record {
      leaves = λ w e o r loose last is at g. g;
      reputs = λ w b o r os v homed is home g.
          let q : QueueState = w.queue in
          let p : ℕ = (row_or q o).place in
          let q1 : QueueState = put_again q o (section_with q p) in
          shape-clear (is_emptied q1 p) q1 p ∙ (shape-with_room q Device (section_with q p) (row_or q o).size ∙ g);
      outs = λ w b loose some free g. g;
    }

keeps-all : (old : QueueState) → KeepsAll (HasShape old) (Throughout (HasShape old))
keeps-all old =
    record { small = throughout (keeps-shape old); writes = λ w g. g; merges = λ w i loose there g. g; splits = λ w i loose there few g. g }

pub insert-shape : (q : QueueState) (o z i : ℕ) → IsInsertable q o z → i < length q.sections → (insert_at q o z i).queue.shape ≡ q.shape
insert-shape q o z i c within = (insert-good (keeps-all q) q o z i c within (shape-with_room q Device i z)).good

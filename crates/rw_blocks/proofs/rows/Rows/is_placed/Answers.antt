use Rattle.std.proofs.Common.{ℕ, List, ap, ◌∙◌, nat_eq, length}
use Rattle.std.specs.Prelude.{not}
use Rattle.rw_blocks.specs.declared.Place.{Place}
use Rattle.rw_blocks.specs.Index.{place_of, objects_of}
use Rattle.rw_blocks.proofs.Follows.{none-weighs}
use Rattle.rw_blocks.proofs.rows.Rows.is_placed.Goals as goal

pub returns : goal.returns
returns c =
    ap (λ n. not (nat_eq n 0)) (c.placed.ensures ∙ c.self.invariant.placed.bytes c.args.serial)
    ∙ (ap not (none-weighs place_of c.args.serial c.self.inside.rows c.self.invariant.sized)
    ∙ ap (λ (es : List (ℕ × Place)). not (nat_eq (length (objects_of place_of c.args.serial es)) 0)) c.self.view_is)

use Rattle.std.proofs.Common.{rules, ◌≡◌, [], sym, ◌∙◌, subst}
use Rattle.rw_blocks.specs.Index.{objects_of}
use Rattle.rw_blocks.specs.Covering.{key_of, Covers}
use Rattle.rw_blocks.specs.Lists.{list_in}
use Rattle.rw_blocks.proofs.Covering.{objects-nothing}
use Rattle.rw_blocks.proofs.lists.Lists.sorted.Goals as goal

pub returns-in-None : goal.returns-in-None
unfolding list_in
returns-in-None c =
    let none : list_in c.args.self.now c.args.serial ≡ [] = search rules in
    let nothing : objects_of (key_of c.args.role) c.args.serial c.args.rows.now ≡ [] = objects-nothing (key_of c.args.role) c.args.serial c.args.rows.now c.requires.ordered (subst (λ l. Covers (key_of c.args.role) c.args.serial l c.args.rows.now) none c.requires.covers) in
    c.new.ensures.items ∙ sym nothing

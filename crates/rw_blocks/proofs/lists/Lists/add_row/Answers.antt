use Rattle.std.proofs.Common.{arith, nat_eq}
use Rattle.rw_blocks.proofs.Follows.{come-once, come-twice, part-le, taken-back}
use Rattle.std.proofs.lemmas.Result.{on_ok_weaker}
use Rattle.rw_blocks.proofs.lists.Lists.add_row.Goals as goal

pub add-requires-2-clause-placed_fit : goal.add-requires-2-clause-placed_fit
add-requires-2-clause-placed_fit c = omega (arith, c.requires.placed_fit c.args.row.home)

pub add-requires-3-clause-homed_fit : goal.add-requires-3-clause-homed_fit
add-requires-3-clause-homed_fit c =
    omega (arith, c.requires.homed_fit c.args.row.place, c.in_ok-wide.ensures.homed c.args.row.place, part-le (nat_eq c.args.row.home c.args.row.place) c.args.row.size)

pub returns-in-Ok-clause-lists : goal.returns-in-Ok-clause-lists
returns-in-Ok-clause-lists c =
    come-twice c.args.self.now c.add-2.new.self c.add-3.new.self c.args.object c.args.row c.in_ok-wide.ensures.list c.in-Ok.ensures.list

pub returns-then-home-place-clause-lists : goal.returns-then-home-place-clause-lists
returns-then-home-place-clause-lists c =
    on_ok_weaker c.add.result (come-once c.args.self.now c.add.new.self c.args.object c.args.row c.if-home-place.true) c.add.ensures.list

pub returns-in-Err-clause-same : goal.returns-in-Err-clause-same
returns-in-Err-clause-same c =
    let come = c.in_ok-wide.ensures in
    let gone = c.take.ensures in
    taken-back c.args.self.now c.add-2.new.self c.add-3.new.self c.take.new.self c.args.row.home c.args.object c.args.row.size
    come.homed come.placed come.list c.in-Err.ensures.same gone.homed gone.placed gone.homes_list gone.places_list

use Rattle.std.proofs.Common.{rules, ◌≡◌, length, sym, ◌∙◌}
use Rattle.std.proofs.lemmas.List.{nil_from_length}
use Rattle.rw_blocks.specs.Index.{home_of}
use Rattle.rw_cache_tests.proofs.FreeBlocks.{IsFree-none, no_rows, none_placed}
use Rattle.rw_cache_tests.proofs.primitives.is_free.Goals as goal

pub returns : goal.returns
returns c empty =
    let none : length c.in_ok-homed.homed.items ≡ 0 = search rules in
    IsFree-none c.args.queue.now c.args.serial
    (no_rows home_of c.args.serial c.args.queue.now.rows (sym c.in_ok-homed.ensures ∙ nil_from_length c.in_ok-homed.homed.items none))
    (none_placed c.args.queue.now c.args.serial (sym c.is_placed.ensures ∙ c.if-is_placed.false))

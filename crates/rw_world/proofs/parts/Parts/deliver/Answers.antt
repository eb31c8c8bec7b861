use Rattle.std.proofs.Common.{◌≡◌, true, length, refl, sym, subst, arith, ap, length-append}
use Rattle.std.proofs.lemmas.Option.{slice_get_read}
use Rattle.rw_vt.proofs.Laws.{laws_of}
use Rattle.rw_world.proofs.Made.{made_deliver, made_no_delivery}
use Rattle.rw_world.proofs.Wholes.{letter_inside}
use Rattle.rw_world.proofs.Made.{deliver_nowhere}
use Rattle.std.proofs.lemmas.Result.{err_from_is_err_and, IfOk-from_err}
use Rattle.rw_world.proofs.parts.Parts.deliver.Goals as goal

pub overflow_cast-place : goal.overflow_cast-place
overflow_cast-place g c =
    let laws = laws_of g.met.M.Model g.met.M.Body.Ord.total in
    let x = c.args.self.now in
    let letter = c.index-letter.result.now in
    let found = slice_get_read x.letters.items (length x.letters.items) c.args.number letter refl (omega arith) c.index-letter.ensures in
    let inside = letter_inside laws x c.requires.whole c.args.number letter found in
    omega arith

pub swap_remove-process-requires : goal.swap_remove-process-requires
swap_remove-process-requires g c =
    let laws = laws_of g.met.M.Model g.met.M.Body.Ord.total in
    let x = c.args.self.now in
    let letter = c.index-letter.result.now in
    let found = slice_get_read x.letters.items (length x.letters.items) c.args.number letter refl (omega arith) c.index-letter.ensures in
    let inside = letter_inside laws x c.requires.whole c.args.number letter found in
    omega arith

pub deliver-requires-clause-valid : goal.deliver-requires-clause-valid
deliver-requires-clause-valid g c =
    let laws = laws_of g.met.M.Model g.met.M.Body.Ord.total in
    let x = c.args.self.now in
    let letter = c.index-letter.result.now in
    let found = slice_get_read x.letters.items (length x.letters.items) c.args.number letter refl (omega arith) c.index-letter.ensures in
    let inside = letter_inside laws x c.requires.whole c.args.number letter found in
    let there = slice_get_read x.processes.items (length x.processes.items) letter.event.to c.swap_remove-process.result refl inside.1 c.swap_remove-process.ensures.value in
    let known = c.requires.whole.numbered letter.event.to c.swap_remove-process.result there in
    subst (λ m. g.M.Model.is_valid m letter.event ≡ true) (sym known.0) inside.0

pub deliver-requires-clause-here : goal.deliver-requires-clause-here
deliver-requires-clause-here g c =
    let laws = laws_of g.met.M.Model g.met.M.Body.Ord.total in
    let x = c.args.self.now in
    let letter = c.index-letter.result.now in
    let found = slice_get_read x.letters.items (length x.letters.items) c.args.number letter refl (omega arith) c.index-letter.ensures in
    let inside = letter_inside laws x c.requires.whole c.args.number letter found in
    let there = slice_get_read x.processes.items (length x.processes.items) letter.event.to c.swap_remove-process.result refl inside.1 c.swap_remove-process.ensures.value in
    let known = c.requires.whole.numbered letter.event.to c.swap_remove-process.result there in
    sym known.1

pub give_back-requires : goal.give_back-requires
give_back-requires g c =
    let laws = laws_of g.met.M.Model g.met.M.Body.Ord.total in
    let x = c.args.self.now in
    let letter = c.index-letter.result.now in
    let found = slice_get_read x.letters.items (length x.letters.items) c.args.number letter refl (omega arith) c.index-letter.ensures in
    let inside = letter_inside laws x c.requires.whole c.args.number letter found in
    record { place = omega (arith, c.swap_remove-process.ensures.len) }

pub returns-in-Done-clause-made : goal.returns-in-Done-clause-made
returns-in-Done-clause-made g c =
    let laws = laws_of g.met.M.Model g.met.M.Body.Ord.total in
    let x = c.args.self.now in
    let letter = c.index-letter.result.now in
    let found = slice_get_read x.letters.items (length x.letters.items) c.args.number letter refl (omega arith) c.index-letter.ensures in
    let inside = letter_inside laws x c.requires.whole c.args.number letter found in
    let there = slice_get_read x.processes.items (length x.processes.items) letter.event.to c.swap_remove-process.result refl inside.1 c.swap_remove-process.ensures.value in
    let known = c.requires.whole.numbered letter.event.to c.swap_remove-process.result there in
    let turn = c.in_ok-process.ensures.turn in
    made_deliver g.M.Model g.M.Body.Ord.cmp x _ c.requires.whole refl refl refl refl letter.event.to c.swap_remove-process.result c.in_ok-process.process there c.in_ok-process.ensures.same
    (c.in_ok-give_back.ensures.back x.processes.items c.swap_remove-process.result inside.1 c.swap_remove-process.ensures.items)
    c.args.number letter found refl c.in_ok-process.answer turn.0 turn.2
    c.deliver.new.out.items turn.1 (omega arith) c.in-Done.is c.remove-delivered.ensures.items

pub returns-in_default-clause-made : goal.returns-in_default-clause-made
returns-in_default-clause-made g c =
    let laws = laws_of g.met.M.Model g.met.M.Body.Ord.total in
    let x = c.args.self.now in
    let letter = c.index-letter.result.now in
    let found = slice_get_read x.letters.items (length x.letters.items) c.args.number letter refl (omega arith) c.index-letter.ensures in
    let inside = letter_inside laws x c.requires.whole c.args.number letter found in
    let there = slice_get_read x.processes.items (length x.processes.items) letter.event.to c.swap_remove-process.result refl inside.1 c.swap_remove-process.ensures.value in
    let known = c.requires.whole.numbered letter.event.to c.swap_remove-process.result there in
    let turn = c.in_ok-process.ensures.turn in
    made_no_delivery g.M.Model g.M.Body.Ord.cmp x _ c.requires.whole refl refl refl refl letter.event.to c.swap_remove-process.result c.in_ok-process.process there c.in_ok-process.ensures.same
    (c.in_ok-give_back.ensures.back x.processes.items c.swap_remove-process.result inside.1 c.swap_remove-process.ensures.items)
    c.args.number letter found refl c.in_ok-process.answer turn.0 turn.2
    c.in_default.not-Done turn.1

pub returns-then-len-number-clause-made : goal.returns-then-len-number-clause-made
returns-then-len-number-clause-made g c = deliver_nowhere g.M.Model g.M.Body.Ord.cmp c.args.self.now c.requires.whole c.args.number (omega arith)

pub returns-in_err-process-clause-made : goal.returns-in_err-process-clause-made
returns-in_err-process-clause-made g c = IfOk-from_err c.from_residual.result _ c.from_residual.ensures.0

pub returns-in_err-give_back-clause-made : goal.returns-in_err-give_back-clause-made
returns-in_err-give_back-clause-made g c = IfOk-from_err c.from_residual-in_err-give_back.result _ c.from_residual-in_err-give_back.ensures.0

pub returns-in_err-give_back-clause-memory : goal.returns-in_err-give_back-clause-memory
returns-in_err-give_back-clause-memory g c =
    let p = err_from_is_err_and c.from_residual-in_err-give_back.result c.from_residual-in_err-give_back.ensures.1 in
    rw (p.1, p.2) c.in_err-give_back.ensures.memory

pub returns-in_err-process-clause-memory : goal.returns-in_err-process-clause-memory
returns-in_err-process-clause-memory g c =
    let p = err_from_is_err_and c.from_residual.result c.from_residual.ensures.1 in
    rw (p.1, p.2) c.in_err-process.ensures.memory

pub remove-delivered-requires : goal.remove-delivered-requires
remove-delivered-requires g c = omega (arith, ap length c.in_ok-process.ensures.turn.1, length-append c.args.self.now.letters.items c.in_ok-process.ensures.turn.0)

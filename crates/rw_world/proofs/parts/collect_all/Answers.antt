use Rattle.std.proofs.Common.{◌≡◌, ◌<◌, length, get_or, ap, ◌∙◌, arith}
use Rattle.std.proofs.lemmas.List.Edits.{map_over_more}
use Rattle.rw_world.specs.Calls.{after_collecting}
use Rattle.rw_world.proofs.Collects.{length-collected_to, next_is, collected_all}
use Rattle.rw_world.proofs.parts.collect_all.Goals as goal

pub swap_remove-process-requires : goal.swap_remove-process-requires
swap_remove-process-requires g c =
    let long : length c.loop-place.processes.items ≡ length c.args.processes.now.items = ap length c.loop-place.invariant ∙ length-collected_to c.args.time c.loop-place.place c.args.processes.now.items (omega arith) in
    omega arith

pub collect-requires : goal.collect-requires
collect-requires g c =
    let xs = c.args.processes.now.items in
    let k = c.loop-place.place in
    let l = c.swap_remove-process.result in
    let there = next_is c.args.time k xs l (omega arith) (c.swap_remove-process.ensures.value ∙ ap (λ ys. get_or ys k l) c.loop-place.invariant) in
    record { pending = (c.requires.quiet k l there).0; debts = (c.requires.quiet k l there).1 }

pub give_back-requires : goal.give_back-requires
give_back-requires g c =
    let long : length c.loop-place.processes.items ≡ length c.args.processes.now.items = ap length c.loop-place.invariant ∙ length-collected_to c.args.time c.loop-place.place c.args.processes.now.items (omega arith) in
    record { place = omega (arith, c.swap_remove-process.ensures.len) }

pub loop-place-preserved : goal.loop-place-preserved
loop-place-preserved g c =
    let xs = c.args.processes.now.items in
    let ys = c.loop-place.processes.items in
    let k = c.loop-place.place in
    let l = c.swap_remove-process.result in
    let long : length ys ≡ length xs = ap length c.loop-place.invariant ∙ length-collected_to c.args.time k xs (omega arith) in
    let within : k < length ys = omega arith in
    c.in_ok-give_back.ensures.back ys l within c.swap_remove-process.ensures.items
    ∙ ap (λ z. Rattle.std.specs.Prelude.slice_set ys k z) c.in_ok-collect.ensures.collected
    ∙ map_over_more (after_collecting c.args.time) xs ys k l (omega arith) c.loop-place.invariant c.swap_remove-process.ensures.value

pub returns-clause-collected : goal.returns-clause-collected
returns-clause-collected g c = c.loop-place.invariant ∙ collected_all c.args.time c.loop-place.place c.args.processes.now.items (omega arith)

use Rattle.std.proofs.Common.{sym, ◌≡◌, ◌∙◌}
use Rattle.std.specs.Prelude.{Some}
use Rattle.rw_blocks.specs.Questions.{section_of}
use Rattle.rw_ripq.proofs.Standing.{active-unsealed, section-within, section-first, nowhere, nowhere-here}
use Rattle.rw_ripq.proofs.Moves.{stands-at}
use Rattle.rw_ripq.proofs.sealed.find_sealed.Goals as goal

pub returns-in_default-clause-none : goal.returns-in_default-clause-none
returns-in_default-clause-none c = λ _. nowhere c.args.queue.now c.args.block (sym c.in_default.is ∙ c.section_of.ensures.section)

pub returns-in_default-position_in-clause-none : goal.returns-in_default-position_in-clause-none
returns-in_default-position_in-clause-none c =
    λ _. nowhere-here c.args.queue.now c.args.block c.in-Some.section c.requires (sym c.in-Some.is ∙ c.section_of.ensures.section) (sym c.in_default-position_in.is ∙ c.position_in.ensures)

pub returns-clause-sealed : goal.returns-clause-sealed
returns-clause-sealed c =
    let is : Some c.in-Some.section ≡ section_of c.args.queue.now c.args.block = sym c.in-Some.is ∙ c.section_of.ensures.section in
    (stands-at c.args.queue.now c.args.block c.in-Some.section c.in-Some-position_in.position (section-within c.args.queue.now c.args.block c.in-Some.section is) (section-first c.args.queue.now c.args.block c.in-Some.section is) (sym c.in-Some-position_in.is ∙ c.position_in.ensures)).0

pub returns-clause-section : goal.returns-clause-section
returns-clause-section c =
    let is : Some c.in-Some.section ≡ section_of c.args.queue.now c.args.block = sym c.in-Some.is ∙ c.section_of.ensures.section in
    (stands-at c.args.queue.now c.args.block c.in-Some.section c.in-Some-position_in.position (section-within c.args.queue.now c.args.block c.in-Some.section is) (section-first c.args.queue.now c.args.block c.in-Some.section is) (sym c.in-Some-position_in.is ∙ c.position_in.ensures)).1

pub returns-clause-position : goal.returns-clause-position
returns-clause-position c =
    let is : Some c.in-Some.section ≡ section_of c.args.queue.now c.args.block = sym c.in-Some.is ∙ c.section_of.ensures.section in
    (stands-at c.args.queue.now c.args.block c.in-Some.section c.in-Some-position_in.position (section-within c.args.queue.now c.args.block c.in-Some.section is) (section-first c.args.queue.now c.args.block c.in-Some.section is) (sym c.in-Some-position_in.is ∙ c.position_in.ensures)).2

pub returns-then-is_active_in-clause-none : goal.returns-then-is_active_in-clause-none
returns-then-is_active_in-clause-none c =
    λ _. active-unsealed c.args.queue.now c.args.block c.in-Some.section c.requires (sym c.in-Some.is ∙ c.section_of.ensures.section) (sym c.is_active_in.ensures ∙ c.if-is_active_in.true)

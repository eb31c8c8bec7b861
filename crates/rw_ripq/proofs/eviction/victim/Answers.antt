use Rattle.std.proofs.Common.{◌∙◌, sym, ap, arith}
use Rattle.std.specs.Prelude.{Some}
use Rattle.std.specs.Option.{option_map}
use Rattle.std.proofs.lemmas.Bool.{lt-ltb}
use Rattle.rw_blocks.specs.State.{sealed_block}
use Rattle.rw_ripq.proofs.Loops.{over-some}
use Rattle.rw_ripq.proofs.Places.{sealed-at}
use Rattle.rw_ripq.proofs.eviction.victim.Goals as goal

pub returns-in_err-section-clause-none : goal.returns-in_err-section-clause-none
returns-in_err-section-clause-none c =
    λ none. absurd (over-some c.args.queue.now
    (let limit = c.allowed_blocks.ensures in lt-ltb _ _ (omega arith))
    (sym c.last_sealed.ensures.block ∙ ap (option_map (λ at. sealed_block c.args.queue.now at.0 at.1)) c.in_err-section.was))

pub returns-clause-some : goal.returns-clause-some
returns-clause-some c = (
  let limit = c.allowed_blocks.ensures in lt-ltb _ _ (omega arith),
  ap (option_map (λ b. b.0)) (sym c.last_sealed.ensures.block) ∙ ap (λ o. option_map (λ b. b.0) (option_map (λ at. sealed_block c.args.queue.now at.0 at.1) o)) c.in_ok-section.was
      ∙ ap (λ b. Some b.0) (sealed-at c.args.queue.now c.in_ok-section.section c.in_ok-section.position c.sealed_at-block.result c.sealed_at-block.ensures),
)

use Rattle.std.proofs.Common.{refl, subst, ◌≡◌, ◌<◌, ◌+◌, ℕ, [], length}
use Rattle.std.specs.Prelude.{Option, Some, None, IfSome, IsNone}
use Rattle.std.specs.Option.{option_map}
use Rattle.rw_blocks.specs.Sections.{section_in}
use Rattle.rw_blocks.specs.State.{QueueState, section_at, sealed_block}
use Rattle.rw_blocks.specs.Questions.{IsLastSealed, last_block}
use Rattle.rw_blocks.proofs.Tails.{last_block-at, last_block-none}
use Rattle.rw_blocks.proofs.queue.Queue.last_sealed.Goals as goal

as_last : (q : QueueState) (o : Option (ℕ × ℕ))
    → IfSome o (λ at. at.0 < length q.sections)
    → IfSome o (λ at. at.1 + 1 ≡ length (section_in q.sections at.0).sealed)
    → IfSome o (λ at. (j : ℕ) → at.0 < j → j < length q.sections → (section_in q.sections j).sealed ≡ [])
    → IfSome o (λ at. IsLastSealed q at.0 at.1)
as_last q None there last behind = tt
as_last q (Some at) there last behind = record { there = there; last = last; nothing_behind = behind }

as_block : (q : QueueState) (o : Option (ℕ × ℕ)) → IfSome o (λ at. IsLastSealed q at.0 at.1) → (IsNone o → (j : ℕ) → j < length q.sections → (section_at q j).sealed ≡ []) → option_map (λ at. sealed_block q at.0 at.1) o ≡ last_block q
as_block q None last none = last_block-none q (none refl)
as_block q (Some at) last none = last_block-at q at.0 at.1 last

pub returns-clause-none : goal.returns-clause-none
returns-clause-none c = λ is. subst (λ (q : QueueState). (j : ℕ) → j < length q.sections → (section_at q j).sealed ≡ []) c.self.view_is (c.last_sealed.ensures.none is)

pub returns-clause-last : goal.returns-clause-last
returns-clause-last c =
    let q : QueueState = record { shape = c.self.inside.shape; sections = c.self.inside.sections; rows = c.self.inside.rows; next = c.self.inside.next } in
    subst (λ (z : QueueState). IfSome c.last_sealed.result (λ at. IsLastSealed z at.0 at.1)) c.self.view_is
    (as_last q c.last_sealed.result c.last_sealed.ensures.there c.last_sealed.ensures.last c.last_sealed.ensures.behind)

pub returns-clause-block : goal.returns-clause-block
returns-clause-block c = as_block c.args.self.now c.last_sealed.result (returns-clause-last c) (returns-clause-none c)

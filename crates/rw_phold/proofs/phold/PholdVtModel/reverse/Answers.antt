use Rattle.std.proofs.Common.{◌≡◌, ◌<◌, ◌+◌, ◌%◌, ◌^◌, ℕ, arith, ap}
use Rattle.std.proofs.lemmas.Grind.{common_steps}
use Rattle.std.specs.Fn.{iterate}
use Rattle.rw_phold.specs.Draws.{drawn, undrawn, drawn_fits, draws_taken_back, undrawn_drawn}
use Rattle.rw_phold.specs.declared.phold.Holder.{Holder}
use Rattle.rw_phold.proofs.phold.PholdVtModel.reverse.Goals as goal

-- what an event's draws have made of a sum is taken back
sum-back : (n sum later : ℕ) → later ≡ iterate drawn n (drawn (sum % 2 ^ 64))
    → undrawn (iterate undrawn n later) ≡ sum % 2 ^ 64
sum-back n sum later e =
    let fits : sum % 2 ^ 64 < 2 ^ 64 = omega arith in
    rw (e, draws_taken_back n (drawn (sum % 2 ^ 64)) (drawn_fits (sum % 2 ^ 64)))
    (undrawn_drawn (sum % 2 ^ 64) fits)

pub returns-then-undo : goal.returns-then-undo
returns-then-undo c = record {
  before = λ before w h.
      let sum : c.undraw.result ≡ (before.sum + c.args.event.now.time) % 2 ^ 64 =
      rw (c.undraw.ensures, c.undraw_back.ensures)
      (sum-back c.args.self.now.work (before.sum + c.args.event.now.time) c.args.state.now.sum
      (ap (λ (s : Holder). s.sum) h.is)) in
      grind (arith, common_steps, sum, h.is, h.passed, w.random, w.sum, w.sends, w.events);
}

pub returns-else-undo : goal.returns-else-undo
returns-else-undo c = record {
  before = λ before w h.
      let sum : c.undraw.result ≡ (before.sum + c.args.event.now.time) % 2 ^ 64 =
      rw (c.undraw.ensures, c.undraw_back.ensures)
      (sum-back c.args.self.now.work (before.sum + c.args.event.now.time) c.args.state.now.sum
      (ap (λ (s : Holder). s.sum) h.is)) in
      grind (arith, common_steps, sum, h.is, h.passed, w.random, w.sum, w.sends, w.events);
}

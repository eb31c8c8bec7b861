use Rattle.std.proofs.Common.{◌≡◌, suc, ◌/◌, ◌^◌, ◌∷◌, [], ◌++◌, sym, ap, ◌∙◌, arith, append_assoc, append-nil}
use Rattle.rw_world.specs.Drawn.{steps_drawn, next_number, step_of}
use Rattle.rw_world.proofs.drawing.draw_steps.Goals as goal

pub loop-step-preserved : goal.loop-step-preserved
loop-step-preserved c = λ n left.
    let more : c.push.new.self.items ≡ c.loop-step.steps.items ++ c.step_of.result ∷ [] = c.in_ok-push.ensures.items in
    let next = c.next_number-number.ensures in
    c.loop-step.invariant (suc n) (omega arith)
    ∙ ap (λ s. c.loop-step.steps.items ++ s ∷ steps_drawn c.args.mixed c.args.processes (next_number c.loop-step.number) n) (sym (c.step_of.ensures ∙ ap (λ v. step_of c.args.mixed c.args.processes (v / 2 ^ 33)) next))
    ∙ ap (λ v. c.loop-step.steps.items ++ c.step_of.result ∷ steps_drawn c.args.mixed c.args.processes v n) (sym next)
    ∙ sym (append_assoc c.loop-step.steps.items (c.step_of.result ∷ []) (steps_drawn c.args.mixed c.args.processes c.next_number-number.result n))
    ∙ ap (λ l. l ++ steps_drawn c.args.mixed c.args.processes c.next_number-number.result n) (sym more)

pub returns : goal.returns
returns c = sym (c.loop-step.invariant 0 (omega arith) ∙ append-nil c.loop-step.steps.items)

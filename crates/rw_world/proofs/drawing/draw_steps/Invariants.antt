use Rattle.std.proofs.Common.{◌≡◌, ℕ, ◌+◌, ◌++◌}
use Rattle.rw_world.specs.Drawn.{steps_drawn}
use Rattle.rw_world.proofs.drawing.draw_steps.Given as goal

abbrev pub invariant-loop-step : goal.invariant-loop-step
invariant-loop-step l = (n : ℕ) → l._step + n ≡ l.count → steps_drawn l.mixed l.processes l.seed l.count ≡ l.steps.items ++ steps_drawn l.mixed l.processes l.number n

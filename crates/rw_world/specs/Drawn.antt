-- Schedules drawn by a linear congruential generator.
use Rattle.std.specs.Prelude.{ℕ, zero, suc, Bool, true, false, ◌+◌, ◌*◌, ◌/◌, ◌%◌, ◌^◌, ◌==◌, nat_le, if◌then◌else◌, List, [], ◌∷◌}
use Rattle.rw_vt.specs.Words.{Count}
use Rattle.rw_world.specs.declared.step.Step.{Step}
use Rattle.rw_world.specs.declared.step.Step.TheVariants.{Execute, Undo, UndoLazily, Deliver, Collect}

-- the number after x
abbrev pub next_number : ℕ → ℕ
next_number x = (x * 6364136223846793005 + 1442695040888963407) % 2 ^ 64

-- the undoing that u stands for; where undoings are mixed, a lazy one if u is odd
abbrev pub undoing_of : Bool → Count → ℕ → Step
undoing_of false processes u = Undo (u % processes)
undoing_of true processes u =
    if u % 2 == 0 then Undo ((u / 2) % processes) else UndoLazily ((u / 2) % processes)

-- the step that v stands for: v mod 8 says which kind, and v / 8 of what
abbrev pub step_of : Bool → Count → ℕ → Step
step_of mixed processes v =
    if nat_le (v % 8) 2 then Execute ((v / 8) % processes)
    else if v % 8 == 3 then undoing_of mixed processes (v / 8)
    else if nat_le (v % 8) 6 then Deliver ((v / 8) % 8)
    else Collect ((v / 8) % 64)

-- n steps of a world with so many processes, drawn from the numbers after x, of each the upper 31 bits
abbrev pub steps_drawn : Bool → Count → ℕ → Count → List Step
steps_drawn mixed processes x zero = []
steps_drawn mixed processes x (suc n) =
    step_of mixed processes (next_number x / 2 ^ 33) ∷ steps_drawn mixed processes (next_number x) n

-- no undoing is lazy
abbrev pub drawn_steps : Count → ℕ → Count → List Step
drawn_steps = steps_drawn false

-- undoings are mixed
abbrev pub mixed_steps : Count → ℕ → Count → List Step
mixed_steps = steps_drawn true

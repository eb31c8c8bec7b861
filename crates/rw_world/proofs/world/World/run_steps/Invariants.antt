use Rattle.std.proofs.Common.{◌≡◌, take}
use Rattle.rw_world.specs.Steps.{run, answers}
use Rattle.rw_world.specs.Calls.{system_of, with_world, simulation_of, world_of, IsWhole}
use Rattle.rw_world.proofs.world.World.run_steps.Given as goal

abbrev pub invariant-loop-step : goal.invariant-loop-step
invariant-loop-step g l = record {
  whole : IsWhole g.M.Model g.M.Body.Ord.cmp l.parts;
  went : simulation_of l.parts ≡ with_world (simulation_of l.initial.parts) (run (system_of g.M.Model g.M.Body.Ord.cmp (simulation_of l.initial.parts)) (world_of l.initial.parts) (take l.step-index l.steps));
  told : l.answers.items ≡ answers (system_of g.M.Model g.M.Body.Ord.cmp (simulation_of l.initial.parts)) (world_of l.initial.parts) (take l.step-index l.steps);
}

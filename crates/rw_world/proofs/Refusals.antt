-- A refused step leaves the world as it was.
use Rattle.std.proofs.Common.{◌≡◌, ℕ, max, Bool, true, false, cond, List, map, refl, Option, Some, None}
use Rattle.std.specs.Prelude.{slice_get, nat_le}
use Rattle.rw_vt.specs.declared.event.Letter.{Letter}
use Rattle.rw_vt.specs.System.{System}
use Rattle.rw_lp.specs.declared.answer.StepFault.{StepFault}
use Rattle.rw_lp.specs.declared.answer.StepFault.TheVariants.{AboveFloor}
use Rattle.rw_lp.specs.declared.answer.Answer.{Answer}
use Rattle.rw_lp.specs.declared.answer.Answer.TheVariants.{Done, Refused}
use Rattle.rw_lp.specs.Process as process
use Rattle.rw_lp.specs.Process.{ProcessState, Turn, Turned, Stays, execute_next, undo_one, undo_lazily}
use Rattle.rw_world.specs.declared.step.Step.{Step}
use Rattle.rw_world.specs.declared.step.Step.TheVariants.{Execute, Undo, UndoLazily, Deliver, Collect}
use Rattle.rw_world.specs.WorldState.{WorldState, floor}
use Rattle.rw_world.specs.Steps.{refusal, world_after, turn_at, remove_at, deliver_to, deliver_letter, apply}

module _ {S B : Type 0} (y : System S B) (w : WorldState S B) where
  -- the answer is no and nothing changed, or the answer is yes
  abbrev Same : WorldState S B × Answer → Type 0
  Same r = (f : StepFault) → r.1 ≡ Refused f → r.0 ≡ w

  at_turned : (p : ℕ) (left : List (Letter B)) (t : Turn S B) → Same (world_after w p left t)
  at_turned p left (Stays f) g q = refl
  at_turned p left (Turned z out) g q = cc

  at_turn : (p : ℕ) (step : ProcessState S B → Turn S B) (o : Option (ProcessState S B)) → Same (turn_at w p step o)
  at_turn p step None f q = refl
  at_turn p step (Some x) f q = at_turned p w.letters (step x) f q

  at_place : (i : ℕ) (l : Letter B) (o : Option (ProcessState S B)) → Same (deliver_to y w i l o)
  at_place i l None f q = refl
  at_place i l (Some x) f q = at_turned l.event.to (remove_at w.letters i) (process.deliver y.rules.order l x) f q

  at_deliver : (i : ℕ) (o : Option (Letter B)) → Same (deliver_letter y w i o)
  at_deliver i None f q = refl
  at_deliver i (Some l) f q = at_place i l (slice_get w.processes l.event.to) f q

  at_collect : (b : Bool) (v : WorldState S B) → Same (cond {A = WorldState S B × Answer} b (v, Done) (refusal w AboveFloor))
  at_collect true v f q = cc
  at_collect false v f q = refl

  pub refused_is_same : (s : Step) → Same (apply y w s)
  refused_is_same (Execute p) = at_turn p (execute_next y.rules p) (slice_get w.processes p)
  refused_is_same (Undo p) = at_turn p (undo_one y.rules p) (slice_get w.processes p)
  refused_is_same (UndoLazily p) = at_turn p (undo_lazily y.rules p) (slice_get w.processes p)
  refused_is_same (Deliver i) = at_deliver i (slice_get w.letters i)
  refused_is_same (Collect t) = at_collect (nat_le t (floor w)) (record { processes = map (process.collect t) w.processes; letters = w.letters; collected = max w.collected t })

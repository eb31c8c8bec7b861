-- A world of processes: what it is, where it starts, and what is outstanding in it.
use Rattle.std.specs.Prelude.{min, Bool, true, false, List, [], ◌∷◌, filter, ◌==◌, ◌&&◌}
use Rattle.rw_vt.specs.Words.{Process, Time}
use Rattle.rw_vt.specs.Limits.{end_of_time}
use Rattle.rw_vt.specs.declared.event.Letter.{Letter}
use Rattle.rw_vt.specs.System.{System, map_from}
use Rattle.rw_lp.specs.Process.{ProcessState}
use Rattle.rw_lp.specs.Calls.{new_process, least_of_processes}

-- the processes, the letters on their way, and the greatest time collected
pub record WorldState (S B : Type 0) : Type 0 where
  pub processes : List (ProcessState S B)
  pub letters : List (Letter B)
  pub collected : Time

-- Before any step: the initial events are pending where they go

-- process q as it starts
abbrev pub opening_process : {S B : Type 0} → System S B → Process → S → ProcessState S B
opening_process y q s = new_process y.rules.order s (filter (λ e. e.to == q) y.initial)

-- the world in which nothing is done
abbrev pub opening_world : {S B : Type 0} → System S B → WorldState S B
opening_world y =
    record { processes = map_from 0 (opening_process y) y.starts; letters = []; collected = 0 }

-- What is outstanding

-- the least of m and the times of these letters
abbrev pub least_of_letters : {B : Type 0} → Time → List (Letter B) → Time
least_of_letters m [] = m
least_of_letters m (l ∷ ls) = min l.event.time (least_of_letters m ls)

-- the least time of what is outstanding, the end of time if there is nothing: global virtual time
abbrev pub floor : {S B : Type 0} → WorldState S B → Time
floor w = least_of_letters (least_of_processes end_of_time w.processes) w.letters

abbrev pub is_empty : {A : Type 0} → List A → Bool
is_empty [] = true
is_empty (x ∷ xs) = false

-- nothing is outstanding at these processes
abbrev pub are_idle : {S B : Type 0} → List (ProcessState S B) → Bool
are_idle [] = true
are_idle (x ∷ xs) = is_empty x.pending && (is_empty x.debts && (is_empty x.held && are_idle xs))

-- nothing is outstanding
abbrev pub is_finished : {S B : Type 0} → WorldState S B → Bool
is_finished w = is_empty w.letters && are_idle w.processes

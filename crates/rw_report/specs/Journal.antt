-- The text of a journal.
use Rattle.std.specs.Prelude.{Bool, true, false, List, [], ◌++◌, codes, decimal, map}
use Rattle.rw_vt.specs.declared.event.Event.{Event}
use Rattle.rw_vt.specs.Words.{Position, Process}
use Rattle.rw_vt.specs.System.{map_from, flatten}
use Rattle.rw_trace.specs.Words.{Text}
use Rattle.rw_lp.specs.declared.answer.Answer.{Answer}
use Rattle.rw_lp.specs.declared.answer.Answer.TheVariants.{Done, Refused}
use Rattle.rw_lp.specs.declared.answer.StepFault.{StepFault}
use Rattle.rw_lp.specs.declared.answer.StepFault.TheVariants.{NoSuchProcess, NoSuchLetter, NothingPending, Straggler, NothingToUndo, StillDone, AboveFloor}
use Rattle.rw_photo.specs.declared.body.Body.{Body}
use Rattle.rw_photo.specs.declared.body.Body.TheVariants.{Request, Miss, Fill, Purge, Drop, Clear}
use Rattle.rw_photo.specs.Cache.{Cache}
use Rattle.rw_world.specs.WorldState.{WorldState, floor, is_finished}

-- each refusal by its number and its name
abbrev pub fault_words : StepFault → Text
fault_words NoSuchProcess = codes "1 NoSuchProcess"
fault_words NoSuchLetter = codes "2 NoSuchLetter"
fault_words NothingPending = codes "3 NothingPending"
fault_words Straggler = codes "4 Straggler"
fault_words NothingToUndo = codes "5 NothingToUndo"
fault_words StillDone = codes "6 StillDone"
fault_words AboveFloor = codes "7 AboveFloor"

-- a line for a step that was refused, none for one that was made
abbrev pub answer_line : Position → Answer → Text
answer_line step Done = []
answer_line step (Refused fault) =
    codes "step " ++ decimal step ++ codes " refused " ++ fault_words fault ++ codes "\n"

-- what happens, to which object, of which size if one is said, and for a miss and a drop from which edge
abbrev pub body_words : Body → Text
body_words (Request object size) = codes "request " ++ decimal object ++ codes " " ++ decimal size
body_words (Miss object size edge) =
    codes "miss " ++ decimal object ++ codes " " ++ decimal size ++ codes " " ++ decimal edge
body_words (Fill object size) = codes "fill " ++ decimal object ++ codes " " ++ decimal size
body_words (Purge object) = codes "purge " ++ decimal object
body_words (Drop object edge) = codes "drop " ++ decimal object ++ codes " " ++ decimal edge
body_words (Clear object) = codes "clear " ++ decimal object

-- an event of a process, as one line
abbrev pub event_line : Process → Event Body → Text
event_line process e =
    codes "process " ++ decimal process
    ++ codes " time " ++ decimal e.time
    ++ codes " source " ++ decimal e.source
    ++ codes " number " ++ decimal e.number
    ++ codes " " ++ body_words e.body
    ++ codes "\n"

-- a line for each of these events of a process
abbrev pub event_lines : Process → List (Event Body) → Text
event_lines process events = flatten (map (event_line process) events)

abbrev pub finished_line : Bool → Text
finished_line true = codes "finished yes\n"
finished_line false = codes "finished no\n"

-- the refused steps, then what each process has committed, then the floor, and whether nothing is left to do
abbrev pub journal_text : List Answer → WorldState Cache Body → Text
journal_text answers w =
    flatten (map_from 0 answer_line answers)
    ++ flatten (map_from 0 (λ p x. event_lines p x.committed) w.processes)
    ++ codes "floor " ++ decimal (floor w) ++ codes "\n"
    ++ finished_line (is_finished w)

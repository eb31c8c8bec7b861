-- What the text of a schedule says.
use Rattle.std.specs.Prelude.{ℕ, ◌+◌, ◌^◌, ◌==◌, if◌then◌else◌, nat_lt, Bool, List, [], ◌∷◌, Option, Some, None, Result, Ok, Err}
use Rattle.std.specs.List.{position_or_len}
use Rattle.rw_vt.specs.Words.{Position}
use Rattle.rw_trace.specs.Trace.{number_of}
use Rattle.rw_trace.specs.Words.{Text}
use Rattle.rw_world.specs.declared.step.Step.{Step}
use Rattle.rw_world.specs.declared.step.Step.TheVariants.{Execute, Undo, UndoLazily, Deliver, Collect}
use Rattle.rw_report.specs.declared.schedule_text.ScheduleFault.{ScheduleFault}
use Rattle.rw_report.specs.declared.schedule_text.ScheduleFault.TheVariants.{Word}

-- a byte before the first of some words
abbrev pub before_words : ℕ → List Text → List Text
before_words b [] = (b ∷ []) ∷ []
before_words b (w ∷ ws) = (b ∷ w) ∷ ws

abbrev pub is_blank : ℕ → Bool
is_blank b = b == 32

-- where the first blank of a text stands, or its length
abbrev pub end_of : Text → Position
end_of text = position_or_len is_blank text

-- the words of a text, parted by single blanks; there is always one, which may be empty
unfoldable pub words_of : Text → List Text
words_of [] = [] ∷ []
words_of (b ∷ bs) = if is_blank b then [] ∷ words_of bs else before_words b (words_of bs)

-- the step of a number below the limit
abbrev pub step_below : ℕ → (ℕ → Step) → Option ℕ → Option Step
step_below limit step None = None
step_below limit step (Some n) = if nat_lt n limit then Some (step n) else None

-- the step that a letter and a number say: E, U, L, D and C stand for execute, undo, undo lazily, deliver and collect
abbrev pub step_of_letter : ℕ → Option ℕ → Option Step
step_of_letter b n =
    if b == 69 then step_below (2 ^ 32) Execute n
    else if b == 85 then step_below (2 ^ 32) Undo n
    else if b == 76 then step_below (2 ^ 32) UndoLazily n
    else if b == 68 then step_below (2 ^ 64) Deliver n
    else if b == 67 then step_below (2 ^ 64) Collect n
    else None

-- the step that a word says, if it says one: a letter and 1 to 20 digits
unfoldable pub step_of_word : Text → Option Step
step_of_word [] = None
step_of_word (b ∷ digits) = step_of_letter b (number_of digits)

-- a step, or a bad word, before what the words behind it say
abbrev pub and_then : Position → Option Step → Result (List Step) ScheduleFault
    → Result (List Step) ScheduleFault
and_then n None rest = Err (Word n)
and_then n (Some step) (Ok steps) = Ok (step ∷ steps)
and_then n (Some step) (Err fault) = Err fault

-- the steps that these words say, the first being word n, or the first bad word
unfoldable pub steps_of : Position → List Text → Result (List Step) ScheduleFault
steps_of n [] = Ok []
steps_of n (w ∷ ws) = and_then n (step_of_word w) (steps_of (n + 1) ws)

-- the steps of a schedule, or its first bad word; an empty text is the empty schedule
abbrev pub schedule_of : Text → Result (List Step) ScheduleFault
schedule_of [] = Ok []
schedule_of (b ∷ bs) = steps_of 0 (words_of (b ∷ bs))

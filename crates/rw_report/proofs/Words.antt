-- The first word of a text ends at its first blank.
use Rattle.std.proofs.Common.{◌≡◌, ℕ, suc, ◌+◌, ◌<◌, Bool, true, false, List, [], ◌∷◌, refl, sym, ap, arith, length, take, drop, append_assoc, Bor}
use Rattle.std.specs.Prelude.{position, cond, nat_lt, ◌++◌, Option, Some, None, IfSome, MatchOption, Result, Ok, Err}
use Rattle.std.proofs.lemmas.List.Quantifiers.{position-Some}
use Rattle.std.proofs.lemmas.List.Sums.{position_or_len_is, prefix_len-le-length}
use Rattle.std.proofs.lemmas.Bool.Decides.{nat_tests}
use Rattle.rw_world.specs.declared.step.Step.{Step}
use Rattle.rw_report.specs.declared.schedule_text.ScheduleFault.{ScheduleFault}
use Rattle.rw_report.specs.declared.schedule_text.ScheduleFault.TheVariants.{Word}
use Rattle.rw_report.specs.Schedule.{and_then, before_words, end_of, is_blank, step_of_word, steps_of, words_of}

pub words-found : (text : List ℕ) → end_of text < length text → words_of text ≡ take (end_of text) text ∷ words_of (drop (end_of text + 1) text)
unfolding words_of
words-found [] some = absurd (omega arith)
words-found (b ∷ bs) some = go (is_blank b) refl (words-found bs)
  where
    go : (t : Bool) → is_blank b ≡ t → (end_of bs < length bs → words_of bs ≡ take (end_of bs) bs ∷ words_of (drop (end_of bs + 1) bs))
        → words_of (b ∷ bs) ≡ take (end_of (b ∷ bs)) (b ∷ bs) ∷ words_of (drop (end_of (b ∷ bs) + 1) (b ∷ bs))
    go true is rest = rw is refl
    go false is rest =
        let next : 1 + end_of bs ≡ suc (end_of bs) = omega arith in
        let more = rw is at some in
        let behind : suc (end_of bs) + 1 ≡ suc (end_of bs + 1) = omega arith in
        rw (is, next, behind) (ap (before_words b) (rest (omega (arith, more))))

pub words-last : (text : List ℕ) → end_of text ≡ length text → words_of text ≡ text ∷ []
unfolding words_of
words-last [] all = refl
words-last (b ∷ bs) all = go (is_blank b) refl (words-last bs)
  where
    go : (t : Bool) → is_blank b ≡ t → (end_of bs ≡ length bs → words_of bs ≡ bs ∷ []) → words_of (b ∷ bs) ≡ (b ∷ bs) ∷ []
    go true is rest = let none = rw is at all in absurd (omega (arith, none))
    go false is rest = let more = rw is at all in rw is (ap (before_words b) (rest (omega (arith, more))))

-- the place of the first blank
pub found-end : (text : List ℕ) (n : ℕ) → position is_blank text ≡ Some n → (end_of text ≡ n) × (n < length text)
found-end text n is =
    let found = position-Some is_blank text n 0 is in
    (position_or_len_is is_blank text n 0 (omega (arith, found.0)) found.2 (λ l. found.1), found.0)

-- a text without a blank
pub none-end : (text : List ℕ) → position is_blank text ≡ None → end_of text ≡ length text
none-end text none = go (nat_lt (end_of text) (length text)) refl none
  where
    go : (t : Bool) → nat_lt (end_of text) (length text) ≡ t → cond t (Some (end_of text)) None ≡ None → end_of text ≡ length text
    go true is some = cc
    go false is misses = grind (arith, nat_tests, prefix_len-le-length {X = ℕ})

-- these steps, before what is said behind them
abbrev pub after_steps : List Step → Result (List Step) ScheduleFault → Result (List Step) ScheduleFault
after_steps steps (Ok more) = Ok (steps ++ more)
after_steps steps (Err fault) = Err fault

-- what the text that is left says, its first word being word n
abbrev pub left_steps : ℕ → Option (Bor (List ℕ)) → Result (List Step) ScheduleFault
left_steps n None = Ok []
left_steps n (Some text) = steps_of n (words_of text.now)

-- how many words may be left at most
abbrev pub left_size : Option (Bor (List ℕ)) → ℕ
left_size None = 0
left_size (Some text) = suc (length text.now)

after-one : (steps : List Step) (s : Step) (n : ℕ) (rest : Result (List Step) ScheduleFault) → after_steps steps (and_then n (Some s) rest) ≡ after_steps (steps ++ s ∷ []) rest
after-one steps s n (Ok more) = ap Ok (sym (append_assoc steps (s ∷ []) more))
after-one steps s n (Err fault) = refl

-- a good word
pub one-more : (steps : List Step) (s : Step) (n : ℕ) (text word : List ℕ) (rest : Option (Bor (List ℕ)))
    → MatchOption rest (words_of text ≡ word ∷ []) (λ behind. words_of text ≡ word ∷ words_of behind.now) → step_of_word word ≡ Some s
    → after_steps steps (steps_of n (words_of text)) ≡ after_steps (steps ++ s ∷ []) (left_steps (n + 1) rest)
unfolding steps_of
one-more steps s n text word None words is = rw (words, is) (after-one steps s n (Ok []))
one-more steps s n text word (Some behind) words is = rw (words, is) (after-one steps s n (steps_of (n + 1) (words_of behind.now)))

-- a bad word
pub bad-word : (n : ℕ) (text word : List ℕ) (rest : Option (Bor (List ℕ)))
    → MatchOption rest (words_of text ≡ word ∷ []) (λ behind. words_of text ≡ word ∷ words_of behind.now) → step_of_word word ≡ None → steps_of n (words_of text) ≡ Err (Word n)
unfolding steps_of
bad-word n text word None words is = rw (words, is) refl
bad-word n text word (Some behind) words is = rw (words, is) refl

pub smaller : (text : List ℕ) (rest : Option (Bor (List ℕ))) → IfSome rest (λ behind. length behind.now < length text) → left_size rest < suc (length text)
smaller text None l = omega arith
smaller text (Some behind) l = omega arith

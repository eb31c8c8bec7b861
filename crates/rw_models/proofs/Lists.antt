-- Lists of records, as loops go over them.
use Rattle.std.proofs.Common.{◌≡◌, ℕ, zero, suc, ◌+◌, ◌<◌, List, [], ◌∷◌, ◌++◌, length, get_or, set, take, drop, refl, sym, ◌∙◌, ap, arith, add-one, append-nil, append_assoc}
use Rattle.std.proofs.lemmas.List.{take_more, map-append}
use Rattle.rw_vt.specs.declared.event.Event.{Event}
use Rattle.rw_vt.specs.System.{flatten}
use Rattle.rw_models.specs.declared.recorded.Record.{Record}
use Rattle.rw_models.specs.Recorded.{executed_of, new_records, states_of}

flatten-append : {A : Type 0} (xss yss : List (List A)) → flatten (xss ++ yss) ≡ flatten xss ++ flatten yss
flatten-append [] yss = refl
flatten-append (xs ∷ xss) yss = ap (λ l. xs ++ l) (flatten-append xss yss) ∙ sym (append_assoc xs (flatten xss) (flatten yss))

module _ {S B : Type 0} where
  -- the events of one record more
  executed_more : (records : List (Record S B)) (i : ℕ) (d : Record S B) → i < length records
      → flatten (executed_of (take (i + 1) records)) ≡ flatten (executed_of (take i records)) ++ (get_or records i d).executed
  executed_more records i d l =
      ap (λ l. flatten (executed_of l)) (take_more records i d l)
      ∙ ap flatten (map-append (λ (r : Record S B). r.executed) (take i records) (get_or records i d ∷ []))
      ∙ flatten-append (executed_of (take i records)) ((get_or records i d).executed ∷ [])
      ∙ ap (λ l. flatten (executed_of (take i records)) ++ l) (append-nil (get_or records i d).executed)

  -- so a loop that appends the events of each record has gathered those of one more
  pub gathered_more : (records : List (Record S B)) (i : ℕ) (r : Record S B) (before more after : List (Event B)) → i < length records
      → r ≡ get_or records i r → more ≡ r.executed → before ≡ flatten (executed_of (take i records)) → after ≡ before ++ more
      → after ≡ flatten (executed_of (take (i + 1) records))
  gathered_more records i r before more after l at is gathered added =
      added ∙ ap (λ l. l ++ more) gathered
      ∙ ap (λ l. flatten (executed_of (take i records)) ++ l) (is ∙ ap (λ (r : Record S B). r.executed) at)
      ∙ sym (executed_more records i r l)

  cleared_at : (old : List (Record S B)) (i : ℕ) (d : Record S B) → i < length old
      → set (new_records (states_of (take i old)) ++ drop i old) i (record { state = (get_or (new_records (states_of (take i old)) ++ drop i old) i d).state; executed = [] })
      ≡ new_records (states_of (take (suc i) old)) ++ drop (suc i) old
  cleared_at [] i d l = absurd (omega arith)
  cleared_at (x ∷ xs) zero d l = refl
  cleared_at (x ∷ xs) (suc i) d l = ap (λ l. (let r : Record S B = record { state = x.state; executed = [] } in r) ∷ l) (cleared_at xs i d (omega arith))

  pub cleared_more : (records old : List (Record S B)) (i : ℕ) (d : Record S B) (none : List (Event B)) → i < length old → none ≡ []
      → records ≡ new_records (states_of (take i old)) ++ drop i old
      → set records i (record { state = (get_or records i d).state; executed = none }) ≡ new_records (states_of (take (i + 1) old)) ++ drop (i + 1) old
  cleared_more records old i d none l empty is =
      ap (λ e. set records i (record { state = (get_or records i d).state; executed = e })) empty
      ∙ ap (λ (rs : List (Record S B)). set rs i (record { state = (get_or rs i d).state; executed = [] })) is
      ∙ cleared_at old i d l
      ∙ ap (λ n. new_records (states_of (take n old)) ++ drop n old) (sym (add-one i))
